use Rattle.std.proofs.Common.{◌≡◌, ◌≤◌, true, drop, length, map}
use Rattle.std.specs.List.{list_all}
use Rattle.spectra_resolved.specs.Chained.{LinkData}
use Rattle.spectra_resolved.specs.Views.{link_data}
use Rattle.spectra_copies.specs.Levels.{is_row_word}
use Rattle.spectra_copies.proofs.rows.before_row.Given as goal

-- all from here on are of a row
abbrev pub invariant-loop-count : goal.invariant-loop-count
invariant-loop-count l =
    record {
      within : l.count ≤ length l.links;
      row : list_all (λ (k : LinkData). is_row_word k.word) (map link_data (drop l.count l.links)) ≡ true;
    }

abbrev pub decreases-loop-count : goal.decreases-loop-count
decreases-loop-count l = l.count
