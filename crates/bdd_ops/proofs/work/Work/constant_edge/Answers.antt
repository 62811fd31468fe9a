use Rattle.std.proofs.Common.{subst}
use Rattle.bdd_store.specs.State.{IsHeld}
use Rattle.bdd_store.proofs.Held.{constant_held}
use Rattle.bdd_ops.specs.Contents.{Contents}
use Rattle.bdd_ops.proofs.work.Work.constant_edge.Goals as goal

pub returns-clause-held : goal.returns-clause-held
returns-clause-held c = subst (λ (x : Contents). IsHeld x.state c.fixed.result.0) c.self.view_is (constant_held c.self.inside.store c.self.inside.store.stack c.fixed.result.0 c.args.b c.fixed.ensures.meaning c.fixed.ensures.live)
