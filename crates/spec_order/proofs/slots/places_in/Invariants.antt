use Rattle.std.proofs.Common.{take}
use Rattle.spec_order.specs.Scenes.{AreAt}
use Rattle.spec_order.proofs.slots.places_in.Given as goal

-- the places of the slots so far
abbrev pub invariant-loop-slot : goal.invariant-loop-slot
invariant-loop-slot l = AreAt l.list l.places.items (take l.slot-index l.slots)
