use Rattle.std.proofs.Common.{◌+◌, ◌||◌, map, sym, ap, ◌∙◌, arith}
use Rattle.std.proofs.lemmas.List.{length-map}
use Rattle.spec_model.specs.declared.expr.Regex.{size-Regex}
use Rattle.spec_model.specs.Views.{regular}
use Rattle.spec_model.specs.TriggerStates.{written, is_skipped}
use Rattle.spec_model.proofs.Regexes.{data_repeat, piece_smaller}
use Rattle.trigger_dfa.proofs.Skipped.{skipped_by_none, skipped_by_piece, skipped_besides, one_from, one_more, none_left}
use Rattle.trigger_dfa.proofs.skipping.+skipping.Goals as goal

pub can_be_skipped-returns-then-low-eq0 : goal.can_be_skipped-returns-then-low-eq0
can_be_skipped-returns-then-low-eq0 t c =
    sym (skipped_by_none (written (regular c.in-Repeat.inner.value)) c.in-Repeat.low c.in-Repeat.field-2 c.if-low-eq0.true)
    ∙ ap (λ r. is_skipped (written r)) (sym (data_repeat c.in-Repeat.inner c.in-Repeat.low c.in-Repeat.field-2))
    ∙ ap (λ p. is_skipped (written (regular p))) (sym c.in-Repeat.is) ∙ c.repeats.invariant.same

pub can_be_skipped-repeats-preserved : goal.can_be_skipped-repeats-preserved
can_be_skipped-repeats-preserved t c = record {
  same = ap (λ p. is_skipped (written (regular p))) c.deref-part.ensures
      ∙ sym (skipped_by_piece (written (regular c.in-Repeat.inner.value)) c.in-Repeat.low c.in-Repeat.field-2 c.if-low-eq0.false)
      ∙ ap (λ r. is_skipped (written r)) (sym (data_repeat c.in-Repeat.inner c.in-Repeat.low c.in-Repeat.field-2))
      ∙ ap (λ p. is_skipped (written (regular p))) (sym c.in-Repeat.is) ∙ c.repeats.invariant.same;
  no_larger = omega (arith, piece_smaller c.in-Repeat.inner c.in-Repeat.low c.in-Repeat.field-2, ap (λ p. size-Regex p) c.deref-part.ensures, ap (λ p. size-Regex p) c.in-Repeat.is, c.repeats.invariant.no_larger);
}

pub can_one_be_skipped-returns-then-can_be_skipped : goal.can_one_be_skipped-returns-then-can_be_skipped
can_one_be_skipped-returns-then-can_be_skipped t c =
    let rs = c.args.rs.now in
    let i = c.loop-r.r-index in
    let all = length-map rs regular in
    sym (skipped_besides (map regular rs) (λ e. omega (arith, all, e, c.loop-r-test.true)) ∙ sym c.loop-r.invariant ∙ one_more rs i c.r-item.result c.loop-r-test.true c.r-item.is
    ∙ ap (λ b. b || one_from rs (i + 1)) (sym c.can_be_skipped.ensures ∙ c.if-can_be_skipped.true))

pub can_one_be_skipped-returns : goal.can_one_be_skipped-returns
can_one_be_skipped-returns t c = none_left c.args.rs.now c.loop-r.r-index c.is_empty.result c.loop-r-test.false c.loop-r.invariant c.is_empty.ensures
