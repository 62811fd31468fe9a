use Rattle.spectra_elaboration.specs.PuttingViews.{bodies_data}
use Rattle.spectra_elaboration.specs.Giving.{AreGiven}
use Rattle.spectra_elaboration.proofs.definitions.given_in_order.Given as goal

abbrev pub invariant-loop-number : goal.invariant-loop-number
invariant-loop-number l = AreGiven (bodies_data l.bodies) l.given.items
