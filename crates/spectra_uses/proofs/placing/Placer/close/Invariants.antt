use Rattle.spectra_uses.specs.Placing.{placing_data, left, PlacesOn}
use Rattle.spectra_uses.proofs.placing.Placer.close.Given as goal

abbrev pub invariant-loop-number : goal.invariant-loop-number
invariant-loop-number l = PlacesOn (placing_data l.fn.self) (placing_data l.self)

abbrev pub decreases-loop-number : goal.decreases-loop-number
decreases-loop-number l = left (placing_data l.self)
