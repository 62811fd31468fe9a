use Rattle.std.proofs.Common.{◌<◌, length, arith, refl}
use Rattle.std.specs.Prelude.{false}
use Rattle.std.proofs.lemmas.List.Sums.{count_by_more_no, count_by_more_yes}
use Rattle.node_table.specs.Index.{LiveBelow, EndsAt, node_of}
use Rattle.node_table.proofs.Slots.{index_empty, used-empty, constants_counted, names_more, used_more, names_same}
use Rattle.node_table.proofs.rebuild.rebuild.Goals as goal
use Rattle.node_table.proofs.rebuild.rebuild.Goals.{then-live-n, else-live-n}

pub loop-n-init : goal.loop-n-init
loop-n-init c = record {
  index = index_empty c.clear.new.slots.items c.args.nodes.now (LiveBelow c.args.live.now 2) c.clear.ensures.empty (λ n listed. omega (arith, listed.0, listed.1));
  counted = omega (arith, used-empty c.clear.new.slots.items c.clear.ensures.empty, constants_counted c.args.nodes.now c.args.live.now c.requires.flagged);
  size = refl;
}

pub loop-n-preserved : goal.loop-n-preserved
loop-n-preserved c =
    let counts = count_by_more_no (λ b. b) c.args.live.now c.loop-n.n false in
    let counted = count_by_more_yes (λ b. b) c.args.live.now c.loop-n.n false in
    elim c.if-live-n.branch [
      | then-live-n w ↦
          let slots = c.loop-n.slots.items in
          let ends : EndsAt slots c.args.nodes.now (node_of c.args.nodes.now c.loop-n.n) w.probe-at.result = rw (← w.deref.ensures.value) w.probe-at.ensures.ends in
          let within : w.probe-at.result < length slots = rw (← w.deref.ensures.value) w.probe-at.ensures.within in
          record {
            index = rw w.slots-is (names_more slots c.args.nodes.now c.args.live.now c.loop-n.n w.probe-at.result c.requires.apart c.loop-n.invariant.index (omega arith) w.if-live-n.true ends within);
            counted = rw w.slots-is (omega (arith, counted (omega arith) w.if-live-n.true, c.loop-n.invariant.counted, used_more slots c.args.nodes.now c.args.live.now c.loop-n.n w.probe-at.result c.requires.apart c.loop-n.invariant.index (omega arith) w.if-live-n.true ends within));
            size = rw w.slots-is c.loop-n.invariant.size;
          }
      | else-live-n w ↦ record {
        index = rw w.slots-is (names_same c.loop-n.slots.items c.args.nodes.now c.args.live.now c.loop-n.n w.if-live-n.false c.loop-n.invariant.index);
        counted = rw w.slots-is (omega (arith, counts (omega arith) w.if-live-n.false, c.loop-n.invariant.counted));
        size = rw w.slots-is c.loop-n.invariant.size;
      }
    ]
