use Rattle.std.proofs.Common.{ap, ◌∙◌}
use Rattle.std.proofs.lemmas.Result.{IfOk-weaker}
use Rattle.spectra_elaboration.specs.PuttingViews.{bodies_data}
use Rattle.spectra_bodies.proofs.putting.bodies_of.Goals as goal

pub returns : goal.returns
returns c = IfOk-weaker c.definitions_of.result _ _ (λ d e. ap bodies_data e ∙ c.in_ok-bodies.ensures) c.definitions_of.ensures
