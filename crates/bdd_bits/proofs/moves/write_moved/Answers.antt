use Rattle.bdd_bits.proofs.ShiftLemmas.{moved_more}
use Rattle.bdd_bits.proofs.moves.write_moved.Goals as goal

pub loop-level-preserved : goal.loop-level-preserved
loop-level-preserved c =
    moved_more c.args.order.now c.args.to.now _ _ c.loop-level.level _ _ _ c.loop-level.invariant c.in_ok-put.ensures c.bit.ensures.bit c.at-moved.ensures c.level.ensures.level
