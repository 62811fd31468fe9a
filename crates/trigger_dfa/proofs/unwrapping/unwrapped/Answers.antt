use Rattle.std.proofs.Common.{◌≡◌, ◌+◌, ◌==◌, ◌||◌, is_none, sym, ap, subst, ◌∙◌, arith}
use Rattle.spec_model.specs.Views.{regular}
use Rattle.spec_model.specs.TriggerStates.{written}
use Rattle.trigger_dfa.specs.Sides.{size_of}
use Rattle.trigger_dfa.specs.Wraps.{Wraps}
use Rattle.spec_model.proofs.Regexes.{data_repeat}
use Rattle.trigger_dfa.proofs.Wrapped.{none_is, wraps_both, wraps_once}
use Rattle.trigger_dfa.proofs.unwrapping.unwrapped.Goals as goal

pub repeats-preserved : goal.repeats-preserved
repeats-preserved c =
    let inner = c.in-Repeat.inner.value in
    let low = c.in-Repeat.low in
    let high = c.in-Repeat.high in
    let all = written (regular c.args.r.now) in
    let once = subst (λ p. Wraps (is_none high) (low == 0) (written (regular inner)) (written (regular p))) (sym c.in-Repeat.is)
    (subst (λ r. Wraps (is_none high) (low == 0) (written (regular inner)) (written r)) (sym (data_repeat c.in-Repeat.inner low high))
    (wraps_once (written (regular inner)) low high (sym c.copies_of.ensures.copies ∙ c.if-copies_of-ne1.false))) in
    let both = wraps_both (is_none high) (low == 0) c.repeats.starred c.repeats.optional (written (regular inner)) (written (regular c.repeats.piece.now)) all once c.repeats.invariant.wraps in
    let size : size_of (regular c.repeats.piece.now) ≡ 1 + size_of (regular inner) = ap (λ p. size_of (regular p)) c.in-Repeat.is ∙ ap size_of (data_repeat c.in-Repeat.inner low high) in
    let same = ap (λ p. size_of (regular p)) c.deref-piece.ensures in
    record {
      wraps = subst (λ p. Wraps (c.repeats.starred || c.is_none-starred.result) (c.repeats.optional || (low == 0)) (written (regular p)) all) (sym c.deref-piece.ensures)
          (subst (λ b. Wraps (c.repeats.starred || b) (c.repeats.optional || (low == 0)) (written (regular inner)) all) (sym (none_is high c.is_none-starred.result c.is_none-starred.ensures)) both);
      smaller = omega (arith, size, same, c.repeats.invariant.smaller);
    }
