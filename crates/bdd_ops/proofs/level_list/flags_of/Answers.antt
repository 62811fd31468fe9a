use Rattle.std.proofs.Common.{◌<◌, refl, arith, length, get_or}
use Rattle.bdd_ops.proofs.ListLemmas.{flags_more, among_all}
use Rattle.bdd_ops.proofs.level_list.flags_of.Goals as goal

pub index_mut-requires : goal.index_mut-requires
index_mut-requires c =
    let below : get_or c.args.levels.now c.loop-level.level-index 0 < c.args.end = c.requires _ (among_all c.args.levels.now c.loop-level.level-index _ c.loop-level-test.true refl) in
    omega arith

pub loop-level-preserved : goal.loop-level-preserved
loop-level-preserved c =
    let below : get_or c.args.levels.now c.loop-level.level-index 0 < c.args.end = c.requires _ (among_all c.args.levels.now c.loop-level.level-index _ c.loop-level-test.true refl) in
    let inside : get_or c.args.levels.now c.loop-level.level-index 0 < length c.loop-level.flags.items = omega arith in
    record {
      size = c.loop-level.invariant.size;
      agree = flags_more c.args.levels.now c.loop-level.level-index c.loop-level.flags.items c.loop-level-test.true inside c.loop-level.invariant.agree;
    }
