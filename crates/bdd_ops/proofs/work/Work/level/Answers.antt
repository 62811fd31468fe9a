use Rattle.bdd_ops.proofs.StepLemmas.{ignored_before}
use Rattle.bdd_ops.proofs.work.Work.level.Goals as goal

pub returns-clause-ignores : goal.returns-clause-ignores
returns-clause-ignores c = ignored_before _ c.args.self.now _ _ _ _ c.self.view_is c.self.invariant.0.store c.requires.live c.in-Some.ensures.parts
