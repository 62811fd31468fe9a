use Rattle.std.proofs.Common.{◌≡◌, take}
use Rattle.spectra_holes.proofs.holing.copy_spots.Given as goal

abbrev pub invariant-loop-at : goal.invariant-loop-at
invariant-loop-at l = l.copies.items ≡ take l.at-index l.places
