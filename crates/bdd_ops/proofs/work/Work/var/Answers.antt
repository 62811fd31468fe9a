use Rattle.std.proofs.Common.{◌≡◌, Err, rules}
use Rattle.bdd_ops.proofs.CallLemmas.{refused_on, given_call}
use Rattle.bdd_ops.proofs.work.Work.var.Goals as goal

pub returns-in_err-edge-clause-given : goal.returns-in_err-edge-clause-given
returns-in_err-edge-clause-given c =
    let same : c.from_residual.result ≡ Err c.in_err-edge.field-0.0 = search rules in
    (refused_on c.args.self.now c.bit.new.self c.bit.result c.from_residual.result c.in_err-edge.field-0.0 _ _ same c.in_err-edge.was c.bit.ensures.roots_live c.requires.idle c.bit.ensures.works c.bit.ensures.full)

pub returns-clause-given : goal.returns-clause-given
returns-clause-given c =
    (given_call c.args.self.now c.bit.new.self c.hold.new.self c.in_ok-edge.edge.0 c.hold.result _ _ c.bit.ensures.roots_live c.bit.ensures.works c.in_ok-edge.ensures.bit c.hold.ensures.table c.hold.ensures.held c.hold.ensures.unchanged c.hold.ensures.memory)
