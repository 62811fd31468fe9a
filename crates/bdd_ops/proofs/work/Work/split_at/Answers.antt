use Rattle.std.proofs.Common.{◌≡◌, ◌<◌, arith, subst}
use Rattle.bdd_store.specs.State.{HasParts}
use Rattle.bdd_ops.specs.Contents.{Contents, AreRight}
use Rattle.bdd_ops.specs.Steps.{level_at}
use Rattle.bdd_ops.proofs.StepLemmas.{split_in_parts, split_in_itself, level_of_parts}
use Rattle.bdd_ops.proofs.work.Work.split_at.Goals as goal

pub returns-in-Some : goal.returns-in-Some
returns-in-Some c = rw (← c.self.view_is) (split_in_parts _ _ _ _ _ _ c.self.invariant.0.store c.in-Some.ensures.parts c.if-own-level.true)

pub returns-in_default : goal.returns-in_default
returns-in_default c =
    let are : AreRight c.args.self.now = subst (λ (x : Contents). AreRight x) c.self.view_is c.self.invariant.0 in
    let parts : HasParts c.args.self.now.state c.args.e.0 c.in-Some.own c.in-Some.low.0 c.in-Some.high.0 = subst (λ (x : Contents). HasParts x.state c.args.e.0 c.in-Some.own c.in-Some.low.0 c.in-Some.high.0) c.self.view_is c.in-Some.ensures.parts in
    let own : level_at c.args.self.now c.args.e.0 ≡ c.in-Some.own = level_of_parts c.args.self.now c.args.e.0 c.in-Some.own c.in-Some.low.0 c.in-Some.high.0 parts in
    let after : c.args.level < level_at c.args.self.now c.args.e.0 = omega arith in
    split_in_itself c.args.self.now c.args.e.0 c.args.level are.store c.requires.live after
