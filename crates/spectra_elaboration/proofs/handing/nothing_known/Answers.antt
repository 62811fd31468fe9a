use Rattle.spectra_elaboration.specs.PuttingViews.{bodies_data}
use Rattle.spectra_elaboration.proofs.HandedOn.{nothing_last}
use Rattle.spectra_elaboration.proofs.handing.nothing_known.Goals as goal

pub returns : goal.returns
returns c = nothing_last (bodies_data c.args.bodies.now) c.resize.new.self.items c.new-lasts.result.items _ _ c.in_ok-resize.ensures.items c.new-lasts.ensures.items
