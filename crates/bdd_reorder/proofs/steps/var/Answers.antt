use Rattle.spec_model.specs.Diagrams.{Bits}
use Rattle.bdd_reorder.specs.Crowding.{bit}
use Rattle.bdd_reorder.specs.Rearranged.{NoFunction}
use Rattle.bdd_reorder.proofs.StepLemmas.{makes_one}
use Rattle.bdd_reorder.proofs.steps.var.Goals as goal

pub returns : goal.returns
returns c = makes_one c.args.diagrams.now c.var.new.self (λ (s : Bits). s c.args.level) (bit c.args.level) NoFunction tt c.var.result c.var.ensures
