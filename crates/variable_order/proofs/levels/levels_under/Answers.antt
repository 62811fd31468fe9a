use Rattle.std.proofs.Common.{arith}
use Rattle.std.proofs.lemmas.Grind.{get_or_default_zero}
use Rattle.variable_order.proofs.LevelLemmas.{known_slots, slot_in, start_within}
use Rattle.variable_order.proofs.levels.levels_under.Goals as goal

pub start-requires-clause-known : goal.start-requires-clause-known
start-requires-clause-known c = known_slots c.args.widths.now c.args.order.now c.requires.order

pub push_levels-requires : goal.push_levels-requires
push_levels-requires c =
    let widths = c.args.widths.now in
    let order = c.args.order.now in
    let slot = c.loop-slot.slot in
    let within = start_within widths order slot (slot_in widths order slot c.requires.order c.loop-slot-test.true) in
    grind (arith, c.start.ensures, within, c.requires.few, c.loop-slot-test.true, get_or_default_zero)
