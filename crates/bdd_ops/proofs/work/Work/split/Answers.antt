use Rattle.std.proofs.Common.{ℕ, subst}
use Rattle.bdd_store.specs.State.{HasParts}
use Rattle.bdd_ops.proofs.SplitLemmas.{splits_parts}
use Rattle.bdd_ops.proofs.work.Work.split.Goals as goal

pub returns-clause-split : goal.returns-clause-split
returns-clause-split c =
    let old = c.args.self.now.state in
    let parts : HasParts old c.args.a.now c.in-Some.level c.in-Some.low.0 c.in-Some.high.0 = subst (λ (n : ℕ). HasParts old n c.in-Some.level c.in-Some.low.0 c.in-Some.high.0) c.edge-edge.ensures.value c.in-Some.ensures in
    rw (c.in_ok-low.ensures.same.0, c.in_ok-low.ensures.same.1)
    (splits_parts old c.hold_both.new.self.state c.args.a.now c.in-Some.level c.in-Some.low.0 c.in-Some.high.0 c.edge-edge.ensures.reduced parts c.hold_both.ensures.table)
