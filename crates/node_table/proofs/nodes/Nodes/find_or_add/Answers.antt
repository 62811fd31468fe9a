use Rattle.std.proofs.Common.{◌≡◌, ℕ, subst, sym, ap, refl, ◌∙◌, inr, arith}
use Rattle.node_table.specs.declared.node.Node.{Node}
use Rattle.node_table.specs.Table.{HasNode, IsNodeAt, IsFit, count_of, diagram_at}
use Rattle.spec_model.specs.Diagrams.{branch}
use Rattle.node_table.specs.contracts.nodes.Nodes.{the_view}
use Rattle.node_table.proofs.Adding.{found_in, none_in, kept_over, node_meaning, grown_node, grown_adds, grown_keeps, grown_meaning, grown_kept}
use Rattle.node_table.proofs.nodes.Nodes.find_or_add.Goals as goal

abbrev node_of_args : ℕ → ℕ → ℕ → Node
node_of_args level low high = record { level = level; low = low; high = high }

pub returns-then-named-ne0-clause-node : goal.returns-then-named-ne0-clause-node
returns-then-named-ne0-clause-node c =
    subst (λ s. IsNodeAt s (node_of_args c.args.level c.args.low c.args.high) c.index-named.result.now) c.self.view_is (found_in (the_view c.self.inside) c.self.inside.slots.items c.self.inside.count c.self.inside.free c.self.invariant.0 (node_of_args c.args.level c.args.low c.args.high) c.deref.result.now c.deref-2.result.now c.probe-at.result c.index-named.result.now c.deref.ensures.value c.deref-2.ensures.value c.probe-at.ensures.ends c.probe-at.ensures.within c.index-named.ensures c.if-named-ne0.true)

pub returns-then-named-ne0-clause-full : goal.returns-then-named-ne0-clause-full
returns-then-named-ne0-clause-full c = (
  (λ e. absurd (let no : ⊥ = cc in no)),
  (λ h. absurd (h.0 (c.index-named.result.now, returns-then-named-ne0-clause-node c))),
)

pub returns-then-named-ne0-clause-meaning : goal.returns-then-named-ne0-clause-meaning
returns-then-named-ne0-clause-meaning c =
    subst (λ s. diagram_at s c.index-named.result.now ≡ branch c.args.level (diagram_at s c.args.low) (diagram_at s c.args.high)) c.self.view_is
    (node_meaning (the_view c.self.inside) (node_of_args c.args.level c.args.low c.args.high) c.index-named.result.now c.self.invariant.0.sound (found_in (the_view c.self.inside) c.self.inside.slots.items c.self.inside.count c.self.inside.free c.self.invariant.0 (node_of_args c.args.level c.args.low c.args.high) c.deref.result.now c.deref-2.result.now c.probe-at.result c.index-named.result.now c.deref.ensures.value c.deref-2.ensures.value c.probe-at.ensures.ends c.probe-at.ensures.within c.index-named.ensures c.if-named-ne0.true))

pub returns-then-self-clause-found : goal.returns-then-self-clause-found
returns-then-self-clause-found c has = none_in (the_view c.self.inside) c.self.inside.slots.items c.self.inside.count c.self.inside.free c.self.invariant.0 (node_of_args c.args.level c.args.low c.args.high) c.deref.result.now c.deref-2.result.now c.probe-at.result c.index-named.result.now c.deref.ensures.value c.deref-2.ensures.value c.probe-at.ensures.ends c.probe-at.ensures.within c.index-named.ensures c.if-named-ne0.false (subst (λ s. HasNode s (node_of_args c.args.level c.args.low c.args.high)) (sym c.self.view_is) has)

pub returns-then-self-clause-full : goal.returns-then-self-clause-full
returns-then-self-clause-full c =
    ((λ _. (λ has. none_in (the_view c.self.inside) c.self.inside.slots.items c.self.inside.count c.self.inside.free c.self.invariant.0 (node_of_args c.args.level c.args.low c.args.high) c.deref.result.now c.deref-2.result.now c.probe-at.result c.index-named.result.now c.deref.ensures.value c.deref-2.ensures.value c.probe-at.ensures.ends c.probe-at.ensures.within c.index-named.ensures c.if-named-ne0.false (subst (λ s. HasNode s (node_of_args c.args.level c.args.low c.args.high)) (sym c.self.view_is) has), subst (λ s. count_of s ≡ s.budget) c.self.view_is (sym c.self.invariant.0.counted ∙ c.if-self.true))), (λ _. refl))

pub room_for-requires-clause-apart : goal.room_for-requires-clause-apart
room_for-requires-clause-apart c = rw (c.deref-3.ensures.value, c.deref-4.ensures.value) c.self.invariant.0.sound.unlike

pub room_for-requires-clause-absent : goal.room_for-requires-clause-absent
room_for-requires-clause-absent c n inner live same =
    none_in (the_view c.self.inside) c.self.inside.slots.items c.self.inside.count c.self.inside.free c.self.invariant.0 (node_of_args c.args.level c.args.low c.args.high) c.deref.result.now c.deref-2.result.now c.probe-at.result c.index-named.result.now c.deref.ensures.value c.deref-2.ensures.value c.probe-at.ensures.ends c.probe-at.ensures.within c.index-named.ensures c.if-named-ne0.false (n, record { inner = inner; live = rw (← c.deref-4.ensures.value) live; has = rw (← c.deref-3.ensures.value) same })

pub returns-in_err-at-clause-found : goal.returns-in_err-at-clause-found
returns-in_err-at-clause-found c has = absurd (none_in (the_view c.self.inside) c.self.inside.slots.items c.self.inside.count c.self.inside.free c.self.invariant.0 (node_of_args c.args.level c.args.low c.args.high) c.deref.result.now c.deref-2.result.now c.probe-at.result c.index-named.result.now c.deref.ensures.value c.deref-2.ensures.value c.probe-at.ensures.ends c.probe-at.ensures.within c.index-named.ensures c.if-named-ne0.false (subst (λ s. HasNode s (node_of_args c.args.level c.args.low c.args.high)) (sym c.self.view_is) has))

pub first_free-n-requires-clause-taken : goal.first_free-n-requires-clause-taken
first_free-n-requires-clause-taken c n less = rw c.deref-5.ensures.value (c.self.invariant.0.taken n less)

pub invariant_of-self-in_err-settle : goal.invariant_of-self-in_err-settle
invariant_of-self-in_err-settle c = (
  rw (c.in_err-settle.ensures.unchanged.0, c.in_err-settle.ensures.unchanged.1, c.in_err-settle.ensures.unchanged.2)
      (kept_over (the_view c.self.inside) c.self.inside.slots.items c.room_for.new.slots.items c.self.inside.count c.self.inside.free c.self.invariant.0
      (rw (← c.deref-3.ensures.value, ← c.deref-4.ensures.value) c.room_for.ensures.index) c.room_for.ensures.used (omega (arith, c.in_ok-at.ensures.room))),
  c.self.invariant.1,
)

pub returns-in_err-settle-clause-found : goal.returns-in_err-settle-clause-found
returns-in_err-settle-clause-found c has = absurd (none_in (the_view c.self.inside) c.self.inside.slots.items c.self.inside.count c.self.inside.free c.self.invariant.0 (node_of_args c.args.level c.args.low c.args.high) c.deref.result.now c.deref-2.result.now c.probe-at.result c.index-named.result.now c.deref.ensures.value c.deref-2.ensures.value c.probe-at.ensures.ends c.probe-at.ensures.within c.index-named.ensures c.if-named-ne0.false (subst (λ s. HasNode s (node_of_args c.args.level c.args.low c.args.high)) (sym c.self.view_is) has))

pub invariant_of-self-2 : goal.invariant_of-self-2
invariant_of-self-2 c =
    let ends = c.in_ok-at.ensures.ends in (
      grown_kept (the_view c.self.inside) c.self.inside.slots.items c.self.inside.count c.self.inside.free c.self.invariant.0 (node_of_args c.args.level c.args.low c.args.high) (subst (λ s. IsFit s (node_of_args c.args.level c.args.low c.args.high)) (sym c.self.view_is) c.requires) c.settle.new.nodes.items c.settle.new.live.items c.settle.new.marked.items c.first_free-n.result c.in_ok-settle.ensures.settled (rw (← c.deref-5.ensures.value) c.first_free-n.ensures.free) (rw (← c.deref-5.ensures.value) c.first_free-n.ensures.taken) (none_in (the_view c.self.inside) c.self.inside.slots.items c.self.inside.count c.self.inside.free c.self.invariant.0 (node_of_args c.args.level c.args.low c.args.high) c.deref.result.now c.deref-2.result.now c.probe-at.result c.index-named.result.now c.deref.ensures.value c.deref-2.ensures.value c.probe-at.ensures.ends c.probe-at.ensures.within c.index-named.ensures c.if-named-ne0.false) (λ e. c.if-self.false (c.self.invariant.0.counted ∙ e)) c.room_for.new.slots.items c.in_ok-at.at
          (rw (← c.deref-3.ensures.value, ← c.deref-4.ensures.value) c.room_for.ensures.index) c.room_for.ensures.used (omega (arith, c.in_ok-at.ensures.room)) (omega (arith, ends.0)) (rw (← c.deref-3.ensures.value) ends.1) ends.2,
      c.self.invariant.1,
    )

pub returns-in_err-settle-clause-keeps : goal.returns-in_err-settle-clause-keeps
returns-in_err-settle-clause-keeps c =
    rw (c.in_err-settle.ensures.unchanged.0, c.in_err-settle.ensures.unchanged.1, c.in_err-settle.ensures.unchanged.2, ← c.self.view_is) (record { live = λ n h. h; meaning = λ n h. refl })

pub returns-clause-node : goal.returns-clause-node
returns-clause-node c = (grown_node (the_view c.self.inside) c.self.inside.slots.items c.self.inside.count c.self.inside.free c.self.invariant.0 (node_of_args c.args.level c.args.low c.args.high) (subst (λ s. IsFit s (node_of_args c.args.level c.args.low c.args.high)) (sym c.self.view_is) c.requires) c.settle.new.nodes.items c.settle.new.live.items c.settle.new.marked.items c.first_free-n.result c.in_ok-settle.ensures.settled (rw (← c.deref-5.ensures.value) c.first_free-n.ensures.free) (rw (← c.deref-5.ensures.value) c.first_free-n.ensures.taken) (none_in (the_view c.self.inside) c.self.inside.slots.items c.self.inside.count c.self.inside.free c.self.invariant.0 (node_of_args c.args.level c.args.low c.args.high) c.deref.result.now c.deref-2.result.now c.probe-at.result c.index-named.result.now c.deref.ensures.value c.deref-2.ensures.value c.probe-at.ensures.ends c.probe-at.ensures.within c.index-named.ensures c.if-named-ne0.false) (λ e. c.if-self.false (c.self.invariant.0.counted ∙ e)))

pub returns-clause-meaning : goal.returns-clause-meaning
returns-clause-meaning c = grown_meaning (the_view c.self.inside) c.self.inside.slots.items c.self.inside.count c.self.inside.free c.self.invariant.0 (node_of_args c.args.level c.args.low c.args.high) (subst (λ s. IsFit s (node_of_args c.args.level c.args.low c.args.high)) (sym c.self.view_is) c.requires) c.settle.new.nodes.items c.settle.new.live.items c.settle.new.marked.items c.first_free-n.result c.in_ok-settle.ensures.settled (rw (← c.deref-5.ensures.value) c.first_free-n.ensures.free) (rw (← c.deref-5.ensures.value) c.first_free-n.ensures.taken) (none_in (the_view c.self.inside) c.self.inside.slots.items c.self.inside.count c.self.inside.free c.self.invariant.0 (node_of_args c.args.level c.args.low c.args.high) c.deref.result.now c.deref-2.result.now c.probe-at.result c.index-named.result.now c.deref.ensures.value c.deref-2.ensures.value c.probe-at.ensures.ends c.probe-at.ensures.within c.index-named.ensures c.if-named-ne0.false) (λ e. c.if-self.false (c.self.invariant.0.counted ∙ e)) ∙ ap (λ s. branch c.args.level (diagram_at s c.args.low) (diagram_at s c.args.high)) c.self.view_is

pub returns-clause-found : goal.returns-clause-found
returns-clause-found c has = absurd (none_in (the_view c.self.inside) c.self.inside.slots.items c.self.inside.count c.self.inside.free c.self.invariant.0 (node_of_args c.args.level c.args.low c.args.high) c.deref.result.now c.deref-2.result.now c.probe-at.result c.index-named.result.now c.deref.ensures.value c.deref-2.ensures.value c.probe-at.ensures.ends c.probe-at.ensures.within c.index-named.ensures c.if-named-ne0.false (subst (λ s. HasNode s (node_of_args c.args.level c.args.low c.args.high)) (sym c.self.view_is) has))

pub returns-clause-added : goal.returns-clause-added
returns-clause-added c = inr (rw (← c.self.view_is) (grown_adds (the_view c.self.inside) c.self.inside.slots.items c.self.inside.count c.self.inside.free c.self.invariant.0 (node_of_args c.args.level c.args.low c.args.high) (subst (λ s. IsFit s (node_of_args c.args.level c.args.low c.args.high)) (sym c.self.view_is) c.requires) c.settle.new.nodes.items c.settle.new.live.items c.settle.new.marked.items c.first_free-n.result c.in_ok-settle.ensures.settled (rw (← c.deref-5.ensures.value) c.first_free-n.ensures.free) (rw (← c.deref-5.ensures.value) c.first_free-n.ensures.taken) (none_in (the_view c.self.inside) c.self.inside.slots.items c.self.inside.count c.self.inside.free c.self.invariant.0 (node_of_args c.args.level c.args.low c.args.high) c.deref.result.now c.deref-2.result.now c.probe-at.result c.index-named.result.now c.deref.ensures.value c.deref-2.ensures.value c.probe-at.ensures.ends c.probe-at.ensures.within c.index-named.ensures c.if-named-ne0.false) (λ e. c.if-self.false (c.self.invariant.0.counted ∙ e))))

pub returns-clause-keeps : goal.returns-clause-keeps
returns-clause-keeps c = rw (← c.self.view_is) (grown_keeps (the_view c.self.inside) c.self.inside.slots.items c.self.inside.count c.self.inside.free c.self.invariant.0 (node_of_args c.args.level c.args.low c.args.high) (subst (λ s. IsFit s (node_of_args c.args.level c.args.low c.args.high)) (sym c.self.view_is) c.requires) c.settle.new.nodes.items c.settle.new.live.items c.settle.new.marked.items c.first_free-n.result c.in_ok-settle.ensures.settled (rw (← c.deref-5.ensures.value) c.first_free-n.ensures.free) (rw (← c.deref-5.ensures.value) c.first_free-n.ensures.taken) (none_in (the_view c.self.inside) c.self.inside.slots.items c.self.inside.count c.self.inside.free c.self.invariant.0 (node_of_args c.args.level c.args.low c.args.high) c.deref.result.now c.deref-2.result.now c.probe-at.result c.index-named.result.now c.deref.ensures.value c.deref-2.ensures.value c.probe-at.ensures.ends c.probe-at.ensures.within c.index-named.ensures c.if-named-ne0.false) (λ e. c.if-self.false (c.self.invariant.0.counted ∙ e)))

pub returns-clause-sound : goal.returns-clause-sound
returns-clause-sound c = (invariant_of-self-2 c).0.sound

pub returns-clause-marks : goal.returns-clause-marks
returns-clause-marks c k = rw (← c.self.view_is) (c.in_ok-settle.ensures.settled.other_marks k)
