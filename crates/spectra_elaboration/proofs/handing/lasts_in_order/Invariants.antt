use Rattle.spectra_elaboration.specs.PuttingViews.{bodies_data}
use Rattle.spectra_elaboration.specs.Handing.{AreLast}
use Rattle.spectra_elaboration.proofs.handing.lasts_in_order.Given as goal

abbrev pub invariant-loop-number : goal.invariant-loop-number
invariant-loop-number l = AreLast (bodies_data l.bodies) l.lasts.items
