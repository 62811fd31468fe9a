use Rattle.std.proofs.Common.{subst}
use Rattle.bdd_ops.specs.Contents.{Contents, AreRight}
use Rattle.bdd_ops.proofs.SplitLemmas.{number_among, number_one}
use Rattle.bdd_ops.proofs.work.Work.number.Goals as goal

pub returns-clause-one : goal.returns-clause-one
returns-clause-one c =
    let are : AreRight c.args.self.now = subst (λ (x : Contents). AreRight x) c.self.view_is c.self.invariant.0 in
    λ m root. number_one c.args.self.now c.args.a.now c.edge.result.0 m are c.edge.ensures.value (rw (← c.self.view_is) c.edge.ensures.live) root

pub returns-clause-among : goal.returns-clause-among
returns-clause-among c =
    let are : AreRight c.args.self.now = subst (λ (x : Contents). AreRight x) c.self.view_is c.self.invariant.0 in
    λ m live same. number_among c.args.self.now c.args.a.now c.edge.result.0 m are c.edge.ensures.value (rw (← c.self.view_is) c.edge.ensures.live) live same
