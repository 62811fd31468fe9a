use Rattle.std.proofs.Common.{◌≡◌, ◌+◌, ◌≤◌, map, drop}
use Rattle.spectra_copies.specs.Links.{link_levels}
use Rattle.spectra_elaboration.specs.Rows.{piece_link}
use Rattle.spectra_elaboration.proofs.rows.row_levels.Given as goal

-- those so far and those of what is left are all
abbrev pub invariant-loop-place : goal.invariant-loop-place
invariant-loop-place l = record {
  all : l.levels + link_levels (map piece_link (drop l.place l.pieces)) ≡ link_levels (map piece_link l.pieces);
  few : l.levels ≤ l.place;
}
