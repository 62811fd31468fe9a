use Rattle.std.proofs.Common.{◌∙◌, arith}
use Rattle.bdd_reorder.proofs.ElementLemmas.{got}
use Rattle.spec_order.proofs.slots.place_in.Goals as goal

pub unreachable-requires : goal.unreachable-requires
unreachable-requires c =
    let list = c.args.list.now in
    let slot = c.args.slot in
    let there = c.requires.there in
    let below = there.1 in
    c.loop-k.invariant there.0 (omega (arith, below, c.loop-k-test.false)) (got list there.0 0 slot below ∙ there.2)
