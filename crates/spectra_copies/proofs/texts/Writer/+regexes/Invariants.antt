use Rattle.std.proofs.Common.{◌≡◌, ◌≤◌, ◌+◌, ◌*◌, length, map}
use denote.Param.Weighed.{most}
use Rattle.std.specs.Vec.Iter.{into_iter_items, into_iter_len}
use Rattle.spectra_resolved.specs.declared.tree.Regex.{size-Regex}
use Rattle.spectra_resolved.specs.Views.{regex_data}
use Rattle.spectra_copies.specs.Texts.{each_in_turn, regex_out}
use Rattle.spectra_copies.proofs.Turns.{with_rest}
use Rattle.spectra_copies.proofs.texts.Writer.+regexes.Given as goal

abbrev pub decreases-regex : goal.decreases-regex
decreases-regex l = 2 * size-Regex l.r

abbrev pub decreases-regexes : goal.decreases-regexes
decreases-regexes l = 2 * most (λ r. size-Regex r) l.rs.items + 1

-- those so far, and what those that are left become
abbrev pub invariant-regexes-loop-r : goal.invariant-regexes-loop-r
invariant-regexes-loop-r l =
    record {
      kept : l.self.numbers.now ≡ l.fn.self.numbers.now;
      out : with_rest regex_data (regex_out l.fn.self.numbers.now) l.all.items l.self.room (into_iter_items l.r-iterator) ≡ each_in_turn (regex_out l.fn.self.numbers.now) l.fn.self.room (map regex_data l.fn.rs.items);
      counted : into_iter_len l.r-iterator ≡ length (into_iter_items l.r-iterator);
      smaller : most (λ r. size-Regex r) (into_iter_items l.r-iterator) ≤ most (λ r. size-Regex r) l.fn.rs.items;
    }
