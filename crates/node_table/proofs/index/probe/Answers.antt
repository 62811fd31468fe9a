use Rattle.std.proofs.Common.{◌<◌, ◌≡◌, ◌+◌, ℕ, length, slice_index, inl, inr, arith, subst, sym, ap, ◌∙◌}
use Rattle.std.proofs.lemmas.Bool.{cases_lt}
use Rattle.node_table.specs.Index.{start_of, slot_for, slot_after, named_at, used, IsPassed}
use Rattle.node_table.proofs.Slots.{all_used, slot_after-more, slot_after-wraps, slot_for-more}
use Rattle.node_table.proofs.index.probe.Goals as goal
use Rattle.node_table.proofs.index.probe.Goals.{then-at-slots, else-at-slots}

pub loop-steps-preserved : goal.loop-steps-preserved
loop-steps-preserved c =
    let slots = c.args.slots.now in
    let node = c.args.node in
    let size = length slots in
    let start = start_of node size in
    let steps = c.loop-steps.steps in
    let within : start < size = subst (λ k. k < size) c.start-at.ensures.value c.start-at.ensures.within in
    let was : c.loop-steps.at ≡ slot_after size start steps = c.loop-steps.invariant.place ∙ slot_for-more slots node steps in
    let next : c.if-at-slots.at ≡ slot_after size start (steps + 1) = elim c.if-at-slots.branch [
      | then-at-slots w ↦ w.at-is ∙ slot_after-wraps size start steps c.loop-steps.at within c.loop-steps-test.true was w.if-at-slots.true
      | else-at-slots w ↦ w.at-is ∙ slot_after-more size start steps c.loop-steps.at within c.loop-steps-test.true was w.if-at-slots.false
    ] in
    let here : IsPassed c.args.nodes.now node (named_at slots node (steps + 1)) =
    subst (λ (k : ℕ). IsPassed c.args.nodes.now node (slice_index slots k)) c.loop-steps.invariant.place (c.ends-in-loop-steps.ensures.passed c.if-ends-2.false) in
    record {
      within = elim c.if-at-slots.branch [
        | then-at-slots w ↦ omega (arith, w.at-is, within)
        | else-at-slots w ↦ omega (arith, w.at-is, w.if-at-slots.false, c.loop-steps.invariant.within)
      ];
      place = next ∙ sym (slot_for-more slots node (steps + 1));
      passed = λ d less. elim (cases_lt d (steps + 1)) [
        | inl before ↦ c.loop-steps.invariant.passed d before
        | inr last ↦ let e : steps + 1 ≡ d = omega (arith, less, last) in subst (λ (k : ℕ). IsPassed c.args.nodes.now node (named_at slots node k)) e here
      ];
    }

pub unreachable-requires : goal.unreachable-requires
unreachable-requires c =
    let within : start_of c.args.node (length c.args.slots.now) < length c.args.slots.now = subst (λ k. k < length c.args.slots.now) c.start-at.ensures.value c.start-at.ensures.within in
    let all : used c.args.slots.now ≡ length c.args.slots.now = all_used c.args.slots.now c.args.node within (λ d less. (c.loop-steps.invariant.passed (d + 1) (omega arith)).0) in
    omega (arith, all, c.requires.room)
