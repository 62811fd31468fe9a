use Rattle.std.proofs.Common.{◌≡◌, ◌<◌, List, Bool, false, length, subst, sym, ◌∙◌, arith, rules}
use Rattle.std.specs.Vec.{with_items}
use Rattle.std.proofs.lemmas.List.{with_items_is, get_or_read}
use Rattle.node_table.specs.Table.{IsLive, IsMarked, MarksNode}
use Rattle.node_table.specs.Index.{IsKept, IsMarkable, IsMarkedFrom}
use Rattle.node_table.specs.contracts.nodes.Nodes.{the_view}
use Rattle.node_table.proofs.Marking.{live_within, with_marks, kept_marked}
use Rattle.node_table.proofs.Walking.{marks_again, markable_in, marked_in}
use Rattle.node_table.proofs.nodes.Nodes.mark.Goals as goal

pub returns-then-index-clause-marks : goal.returns-then-index-clause-marks
returns-then-index-clause-marks c =
    let t = the_view c.self.inside in
    let live : IsLive t c.args.n = subst (λ s. IsLive s c.args.n) (sym c.self.view_is) c.requires.live in
    let within : c.args.n < length c.self.inside.marked.items = omega (arith, live_within t.live c.args.n live, c.self.invariant.0.sound.flags, c.self.invariant.0.sound.marks) in
    let marked : IsMarked t c.args.n = sym (get_or_read c.self.inside.marked.items c.args.n c.index.result.now within c.index.ensures false) ∙ c.if-index.true in
    subst (λ s. MarksNode s s c.args.n) c.self.view_is (marks_again t c.args.n c.self.invariant.0.sound live marked)

pub mark_from-requires : goal.mark_from-requires
mark_from-requires c =
    let t = the_view c.self.inside in
    let markable : IsMarkable t c.args.n (length c.deref_mut-2.result.now) = record {
      sound = c.self.invariant.0.sound;
      live = subst (λ s. IsLive s c.args.n) (sym c.self.view_is) c.requires.live;
      unmarked = search (rules, c.index.ensures, c.if-index.false);
      room = omega (arith, c.self.invariant.1, c.deref_mut-2.ensures.len);
    } in
    (t, markable_in t c.deref.result.now c.deref_mut.result.now c.args.n (length c.deref_mut-2.result.now) c.deref.ensures.value c.deref_mut.ensures.value markable)

-- what the walk leaves, in the table
marked_from : (c : goal.After-self-2-1) → IsMarkedFrom (the_view c.self.inside) (with_marks (the_view c.self.inside) c.mark_from.new.marked) c.args.n
marked_from c =
    let t = the_view c.self.inside in
    let markable : IsMarkable t c.args.n (length c.deref_mut-2.result.now) = record {
      sound = c.self.invariant.0.sound;
      live = subst (λ s. IsLive s c.args.n) (sym c.self.view_is) c.requires.live;
      unmarked = search (rules, c.index.ensures, c.if-index.false);
      room = omega (arith, c.self.invariant.1, c.deref_mut-2.ensures.len);
    } in
    marked_in t c.deref.result.now c.deref_mut.result.now c.mark_from.new.marked c.args.n c.deref.ensures.value c.deref_mut.ensures.value
    (c.mark_from.ensures t (markable_in t c.deref.result.now c.deref_mut.result.now c.args.n (length c.deref_mut-2.result.now) c.deref.ensures.value c.deref_mut.ensures.value markable))

pub invariant_of-self : goal.invariant_of-self
invariant_of-self c =
    let t = the_view c.self.inside in
    let written : (with_items c.self.inside.marked c.mark_from.new.marked).items ≡ c.mark_from.new.marked = with_items_is c.self.inside.marked c.mark_from.new.marked (omega (arith, c.mark_from.auto.marked, c.deref_mut.ensures.len)) in (
      subst (λ (m : List Bool). IsKept (with_marks t m) c.self.inside.slots.items c.self.inside.count c.self.inside.free) (sym written)
          (kept_marked t c.mark_from.new.marked c.self.inside.slots.items c.self.inside.count c.self.inside.free c.self.invariant.0 (marked_from c).sound),
      c.self.invariant.1,
    )

pub returns-clause-marks : goal.returns-clause-marks
returns-clause-marks c =
    let t = the_view c.self.inside in
    let written : (with_items c.self.inside.marked c.mark_from.new.marked).items ≡ c.mark_from.new.marked = with_items_is c.self.inside.marked c.mark_from.new.marked (omega (arith, c.mark_from.auto.marked, c.deref_mut.ensures.len)) in
    let marks : MarksNode t (with_marks t (with_items c.self.inside.marked c.mark_from.new.marked).items) c.args.n = subst (λ (m : List Bool). MarksNode t (with_marks t m) c.args.n) (sym written) (marked_from c).marks in
    subst (λ s. MarksNode s (with_marks t (with_items c.self.inside.marked c.mark_from.new.marked).items) c.args.n) c.self.view_is marks

pub returns-clause-sound : goal.returns-clause-sound
returns-clause-sound c = (invariant_of-self c).0.sound
