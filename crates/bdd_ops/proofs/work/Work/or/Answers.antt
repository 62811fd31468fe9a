use Rattle.std.proofs.Common.{◌≡◌, Err, rules}
use Rattle.bdd_ops.proofs.CallLemmas.{refused_on, given_call}
use Rattle.bdd_ops.proofs.work.Work.or.Goals as goal

pub returns-in_err-edge-clause-given : goal.returns-in_err-edge-clause-given
returns-in_err-edge-clause-given c =
    let same : c.from_residual.result ≡ Err c.in_err-edge.field-0.0 = search rules in
    rw (← c.edge-a.ensures.value, ← c.edge-b.ensures.value) (refused_on c.args.self.now c.joined.new.self c.joined.result c.from_residual.result c.in_err-edge.field-0.0 _ _ same c.in_err-edge.was c.edge-a.ensures.roots_live c.requires.idle c.joined.ensures.works c.joined.ensures.full)

pub returns-clause-given : goal.returns-clause-given
returns-clause-given c =
    rw (← c.edge-a.ensures.value, ← c.edge-b.ensures.value) (given_call c.args.self.now c.joined.new.self c.hold.new.self c.in_ok-edge.edge.0 c.hold.result _ _ c.edge-a.ensures.roots_live c.joined.ensures.works c.in_ok-edge.ensures.joined c.hold.ensures.table c.hold.ensures.held c.hold.ensures.unchanged c.hold.ensures.memory)
