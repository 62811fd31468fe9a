use Rattle.std.proofs.Common.{◌<◌, ◌-◌, length, get_or, set, true, refl, arith, length-set, not}
use Rattle.std.specs.Prelude.{count_by}
use Rattle.node_table.specs.Index.{with_columns}
use Rattle.node_table.proofs.Walking.{walk_begins, walk_up, walk_down, walk_ends, at_within, at_unmarked, low_within, high_within, room_below, fewer_unmarked, step_up, step_down}
use Rattle.node_table.proofs.walk.mark_from.Goals as goal

pub loop-depth-init : goal.loop-depth-init
loop-depth-init c = record {
  within = omega (arith, c.requires.1.room, length-set c.args.way.now 0 c.args.n);
  walk = λ t markable. walk_begins (with_columns t c.args.nodes.now c.args.marked.now) c.args.way.now c.args.n markable;
}

pub unmarked_part-requires-clause-within : goal.unmarked_part-requires-clause-within
unmarked_part-requires-clause-within c =
    at_within (with_columns c.requires.0 c.args.nodes.now c.args.marked.now) c.loop-depth.marked c.loop-depth.way c.args.n c.loop-depth.depth _ c.requires.1.sound (c.loop-depth.invariant.walk c.requires.0 c.requires.1) (omega arith) refl

pub unmarked_part-requires-clause-low : goal.unmarked_part-requires-clause-low
unmarked_part-requires-clause-low c =
    low_within (with_columns c.requires.0 c.args.nodes.now c.args.marked.now) c.loop-depth.marked c.loop-depth.way c.args.n c.loop-depth.depth _ c.requires.1.sound (c.loop-depth.invariant.walk c.requires.0 c.requires.1) (omega arith) refl

pub unmarked_part-requires-clause-high : goal.unmarked_part-requires-clause-high
unmarked_part-requires-clause-high c =
    high_within (with_columns c.requires.0 c.args.nodes.now c.args.marked.now) c.loop-depth.marked c.loop-depth.way c.args.n c.loop-depth.depth _ c.requires.1.sound (c.loop-depth.invariant.walk c.requires.0 c.requires.1) (omega arith) refl

pub bounds-way-depth-in-Some : goal.bounds-way-depth-in-Some
bounds-way-depth-in-Some c =
    room_below (with_columns c.requires.0 c.args.nodes.now c.args.marked.now) c.loop-depth.marked c.loop-depth.way c.args.n c.loop-depth.depth _ c.requires.1.sound (c.loop-depth.invariant.walk c.requires.0 c.requires.1) (omega arith) refl c.in-Some.part c.in-Some.ensures (omega (arith, c.requires.1.room, c.loop-depth.auto.way, length-set c.args.way.now 0 c.args.n))

pub loop-depth-preserved-in-Some : goal.loop-depth-preserved-in-Some
loop-depth-preserved-in-Some c =
    let below : c.loop-depth.depth < length c.loop-depth.way = bounds-way-depth-in-Some c in
    record {
      within = omega (arith, below, length-set c.loop-depth.way c.loop-depth.depth c.in-Some.part);
      walk = λ t markable.
          walk_down (with_columns t c.args.nodes.now c.args.marked.now) c.loop-depth.marked c.loop-depth.way c.args.n c.loop-depth.depth _ markable.sound (c.loop-depth.invariant.walk t markable) (omega arith) refl c.in-Some.part c.in-Some.ensures (omega (arith, markable.room, c.loop-depth.auto.way, length-set c.args.way.now 0 c.args.n));
    }

pub loop-depth-smaller-in-Some : goal.loop-depth-smaller-in-Some
loop-depth-smaller-in-Some c =
    let at = get_or c.loop-depth.way (c.loop-depth.depth - 1) 0 in
    let walk = c.loop-depth.invariant.walk c.requires.0 c.requires.1 in
    let t = with_columns c.requires.0 c.args.nodes.now c.args.marked.now in
    let inside : at < length c.loop-depth.marked = omega (arith, at_within t c.loop-depth.marked c.loop-depth.way c.args.n c.loop-depth.depth at c.requires.1.sound walk (omega arith) refl, walk.sound.marks) in
    step_down (count_by not c.loop-depth.marked) (count_by not (set c.loop-depth.marked at true)) (length c.args.way.now) c.loop-depth.depth
    (fewer_unmarked c.loop-depth.marked at inside (at_unmarked t c.loop-depth.marked c.loop-depth.way c.args.n c.loop-depth.depth at c.requires.1.sound walk (omega arith) refl))
    (omega (arith, bounds-way-depth-in-Some c, c.loop-depth.auto.way, length-set c.args.way.now 0 c.args.n))

pub bounds-marked-at : goal.bounds-marked-at
bounds-marked-at c =
    let walk = c.loop-depth.invariant.walk c.requires.0 c.requires.1 in
    omega (arith, walk.sound.marks, at_within (with_columns c.requires.0 c.args.nodes.now c.args.marked.now) c.loop-depth.marked c.loop-depth.way c.args.n c.loop-depth.depth (get_or c.loop-depth.way (c.loop-depth.depth - 1) 0) c.requires.1.sound walk (omega arith) refl)

pub loop-depth-preserved : goal.loop-depth-preserved
loop-depth-preserved c = record {
  within = omega (arith, c.loop-depth.invariant.within);
  walk = λ t markable.
      walk_up (with_columns t c.args.nodes.now c.args.marked.now) c.loop-depth.marked c.loop-depth.way c.args.n c.loop-depth.depth _ markable.sound (c.loop-depth.invariant.walk t markable) (omega arith) refl c.in-None.ensures;
}

pub loop-depth-smaller : goal.loop-depth-smaller
loop-depth-smaller c =
    let at = get_or c.loop-depth.way (c.loop-depth.depth - 1) 0 in
    let walk = c.loop-depth.invariant.walk c.requires.0 c.requires.1 in
    let t = with_columns c.requires.0 c.args.nodes.now c.args.marked.now in
    let unmarked = at_unmarked t c.loop-depth.marked c.loop-depth.way c.args.n c.loop-depth.depth at c.requires.1.sound walk (omega arith) refl in
    step_up (count_by not c.loop-depth.marked) (count_by not (set c.loop-depth.marked at true)) (length c.args.way.now) c.loop-depth.depth
    (fewer_unmarked c.loop-depth.marked at (bounds-marked-at c) unmarked) (omega arith) (omega (arith, c.loop-depth.invariant.within, c.loop-depth.auto.way, length-set c.args.way.now 0 c.args.n))

pub returns : goal.returns
returns c = λ t markable.
    walk_ends (with_columns t c.args.nodes.now c.args.marked.now) c.loop-depth.marked c.loop-depth.way c.args.n c.loop-depth.depth (length c.args.way.now) (omega arith) markable (c.loop-depth.invariant.walk t markable)
