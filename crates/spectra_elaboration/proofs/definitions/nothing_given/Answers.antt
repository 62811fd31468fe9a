use Rattle.spectra_elaboration.specs.PuttingViews.{bodies_data}
use Rattle.spectra_elaboration.proofs.GivenBack.{nothing_given}
use Rattle.spectra_elaboration.proofs.definitions.nothing_given.Goals as goal

pub returns : goal.returns
returns c = nothing_given (bodies_data c.args.bodies.now) c.resize.new.self.items c.new-given.result.items _ _ c.in_ok-resize.ensures.items c.new-given.ensures.items
