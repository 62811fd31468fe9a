use Rattle.bdd_bits.proofs.OrderLemmas.{one_more}
use Rattle.bdd_bits.proofs.order.leads_back.Goals as goal

pub loop-k-preserved : goal.loop-k-preserved
loop-k-preserved c =
    one_more c.args.to.now c.args.back.now c.loop-k.k c.loop-k-test.true c.requires.as_long c.if-other-back.false c.if-back-other.false c.loop-k.invariant
