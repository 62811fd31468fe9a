use Rattle.std.proofs.Common.{arith}
use Rattle.node_table.specs.contracts.nodes.Nodes.{the_view}
use Rattle.node_table.proofs.Sweeping.{swept_apart, swept_room, swept_kept, swept_sweeps}
use Rattle.node_table.proofs.nodes.Nodes.sweep.Goals as goal

pub rebuild-requires-clause-apart : goal.rebuild-requires-clause-apart
rebuild-requires-clause-apart c = rw (c.deref.ensures.value, c.deref-2.ensures.value) (swept_apart (the_view c.self.inside) c.self.inside.slots.items c.self.inside.count c.self.inside.free c.self.invariant.0 c.drop_unmarked-self-inside.new.live.items c.drop_unmarked-self-inside.new.marked.items c.drop_unmarked-self-inside.ensures.live c.drop_unmarked-self-inside.ensures.marked (omega arith) (omega arith))

pub rebuild-requires-clause-room : goal.rebuild-requires-clause-room
rebuild-requires-clause-room c = rw c.deref-2.ensures.value (omega (arith, swept_room (the_view c.self.inside) c.self.inside.slots.items c.self.inside.count c.self.inside.free c.self.invariant.0 c.drop_unmarked-self-inside.new.live.items c.drop_unmarked-self-inside.new.marked.items c.drop_unmarked-self-inside.ensures.live c.drop_unmarked-self-inside.ensures.marked (omega arith) (omega arith)))

pub invariant_of-self : goal.invariant_of-self
invariant_of-self c =
    let nodes = c.deref.ensures.value in
    let live = c.deref-2.ensures.value in (
      swept_kept (the_view c.self.inside) c.self.inside.slots.items c.self.inside.count c.self.inside.free c.self.invariant.0 c.drop_unmarked-self-inside.new.live.items c.drop_unmarked-self-inside.new.marked.items c.drop_unmarked-self-inside.ensures.live c.drop_unmarked-self-inside.ensures.marked (omega arith) (omega arith) c.rebuild.new.slots.items c.drop_unmarked-self-inside.result c.drop_unmarked-self-inside.ensures.count
          (rw (← nodes, ← live) c.rebuild.ensures.index) (rw (← live) c.rebuild.ensures.used) (omega (arith, c.rebuild.ensures.size)),
      c.self.invariant.1,
    )

pub returns-clause-sweeps : goal.returns-clause-sweeps
returns-clause-sweeps c = rw (← c.self.view_is) (swept_sweeps (the_view c.self.inside) c.self.inside.slots.items c.self.inside.count c.self.inside.free c.self.invariant.0 c.drop_unmarked-self-inside.new.live.items c.drop_unmarked-self-inside.new.marked.items c.drop_unmarked-self-inside.ensures.live c.drop_unmarked-self-inside.ensures.marked (omega arith) (omega arith))

pub returns-clause-sound : goal.returns-clause-sound
returns-clause-sound c = (invariant_of-self c).0.sound
