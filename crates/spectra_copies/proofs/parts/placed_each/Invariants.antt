use Rattle.std.proofs.Common.{◌≡◌, map, take}
use Rattle.spectra_copies.specs.Places.{placed}
use Rattle.spectra_copies.proofs.parts.placed_each.Given as goal

abbrev pub invariant-loop-at : goal.invariant-loop-at
invariant-loop-at l = l.made.items ≡ map (placed l.brought) (take l.at-index l.places)
