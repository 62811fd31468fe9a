use Rattle.std.proofs.Common.{◌≡◌, ℕ, ◌<◌, ◌≤◌, ◌++◌, List, length, map, drop, reverse}
use Rattle.spectra_resolved.specs.Views.{link_data}
use Rattle.spectra_elaboration.specs.declared.frames.Frame.{Frame}
use Rattle.spectra_elaboration.specs.Putting.{Bodies}
use Rattle.spectra_elaboration.specs.Frames.{link_at}
use Rattle.spectra_elaboration.specs.Rows.{pieces_at, AreWithin}
use Rattle.spectra_elaboration.proofs.rows.add_pieces.Given as goal

-- those behind what is left are there
abbrev pub invariant-loop-left : goal.invariant-loop-left
invariant-loop-left l = record {
  added : (b : Bodies) (fs : List Frame) → reverse (pieces_at b fs l.pieces.items) ≡ map (link_at b fs l.frame) (map link_data (drop l.left l.links)) ++ reverse (pieces_at b fs l.fn.pieces.items);
  within : (count : ℕ) → l.frame < count → AreWithin count l.fn.pieces.items → AreWithin count l.pieces.items;
  some : l.left < length l.links → 0 < length l.pieces.items;
  few : l.left ≤ length l.links;
}

abbrev pub decreases-loop-left : goal.decreases-loop-left
decreases-loop-left l = l.left
