use Rattle.region_bdd.proofs.SlotLaws.{slot_counted, slot_popped, all_given}
use Rattle.bit_compile.proofs.Between.{none_left}
use Rattle.region_bdd.proofs.ending.release_slots.Goals as goal

pub release_slot-requires : goal.release_slot-requires
release_slot-requires c = slot_counted c.args.diagrams.now.state c.loop-slot.diagrams.state c.args.slots.slots.items c.loop-slot.held.items c.pop.new.self.items c.in-Some.slot c.loop-slot.invariant c.in-Some.ensures.items c.requires

pub loop-slot-preserved : goal.loop-slot-preserved
loop-slot-preserved c = slot_popped c.args.diagrams.now.state c.loop-slot.diagrams.state c.args.slots.slots.items c.loop-slot.held.items c.pop.new.self.items c.in-Some.slot c.loop-slot.invariant c.in-Some.ensures.items c.release_slot.new.diagrams.state c.release_slot.ensures

pub returns : goal.returns
returns c = all_given c.args.diagrams.now.state c.loop-slot.diagrams.state c.args.slots.slots.items c.loop-slot.held.items c.loop-slot.invariant (none_left c.loop-slot.held c.in_default.ensures.cases.0)
