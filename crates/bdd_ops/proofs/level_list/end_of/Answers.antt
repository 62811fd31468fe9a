use Rattle.std.proofs.Common.{arith}
use Rattle.bdd_ops.proofs.ListLemmas.{below_more_levels}
use Rattle.bdd_ops.proofs.level_list.end_of.Goals as goal

pub loop-level-preserved : goal.loop-level-preserved
loop-level-preserved c = record {
  within = c.greater-end.ensures.one 4294967296 c.loop-level.invariant.within (omega arith);
  above = below_more_levels c.args.levels.now c.loop-level.level-index c.loop-level.end c.greater-end.result c.loop-level-test.true c.loop-level.invariant.above c.greater-end.ensures.left (omega arith);
}
