use Rattle.std.proofs.Common.{ℕ, ◌+◌, Bool, ◌&&◌, ◌||◌, List, drop, sym, ap, ◌∙◌, arith}
use Rattle.std.specs.List.{list_all, list_any}
use Rattle.spec_model.specs.Meaning.{truths_at}
use Rattle.game_values.specs.Safety.{formulas_in}
use Rattle.spec_model.specs.declared.expr.Expr.{Expr}
use Rattle.column_planes.specs.Planes.{bit_in}
use Rattle.column_planes.proofs.PlanesOfParts.{and_three, or_three, all_from, some_from, lighter_from, drop_past, and_true, or_false}
use Rattle.column_planes.proofs.truths.+truths.Goals as goal

pub all_hold-loop-e-preserved : goal.all_hold-loop-e-preserved
all_hold-loop-e-preserved t c =
    let es = c.args.es.now in
    let k = c.loop-e.e-index in
    record {
      sized = let copied = c.copy_from_slice.ensures.len in omega (arith, copied, c.loop-e.invariant.sized);
      same = λ j below r t' seen.
          let rest = list_all (λ (a : ℕ → Bool). a t') (truths_at r (formulas_in (drop (k + 1) es))) in
          ap (λ (ws : List ℕ). bit_in ws j && rest) c.copy_from_slice.ensures.after
          ∙ (ap (λ x. x && rest) (c.and_planes.ensures.bits j)
          ∙ (and_three (bit_in c.loop-e.out j) (bit_in c.plane.new.out j) rest
          ∙ (ap (λ x. bit_in c.loop-e.out j && (x && rest)) (c.plane.ensures.plane c.if-not-plane.false j below r t' seen)
          ∙ (ap (λ x. bit_in c.loop-e.out j && x) (sym (all_from r es k (k + 1) c.e-item.result t' (omega (arith, c.loop-e-test.true)) (omega arith) c.e-item.is))
          ∙ c.loop-e.invariant.same j below r t' seen))));
      lighter = lighter_from es k (k + 1) _ (omega arith) c.loop-e.invariant.lighter;
    }

pub all_hold-returns-clause-plane : goal.all_hold-returns-clause-plane
all_hold-returns-clause-plane t c = λ read j below r t' seen.
    let es = c.args.es.now in
    sym (and_true (bit_in c.loop-e.out j))
    ∙ (ap (λ (ds : List Expr). bit_in c.loop-e.out j && list_all (λ (a : ℕ → Bool). a t') (truths_at r (formulas_in ds))) (sym (drop_past es c.loop-e.e-index (omega (arith, c.loop-e-test.false))))
    ∙ c.loop-e.invariant.same j below r t' seen)

pub some_hold-loop-e-preserved : goal.some_hold-loop-e-preserved
some_hold-loop-e-preserved t c =
    let es = c.args.es.now in
    let k = c.loop-e.e-index in
    record {
      sized = let copied = c.copy_from_slice.ensures.len in omega (arith, copied, c.loop-e.invariant.sized);
      same = λ j below r t' seen.
          let rest = list_any (λ (a : ℕ → Bool). a t') (truths_at r (formulas_in (drop (k + 1) es))) in
          ap (λ (ws : List ℕ). bit_in ws j || rest) c.copy_from_slice.ensures.after
          ∙ (ap (λ x. x || rest) (c.or_planes.ensures.bits j)
          ∙ (or_three (bit_in c.loop-e.out j) (bit_in c.plane.new.out j) rest
          ∙ (ap (λ x. bit_in c.loop-e.out j || (x || rest)) (c.plane.ensures.plane c.if-not-plane.false j below r t' seen)
          ∙ (ap (λ x. bit_in c.loop-e.out j || x) (sym (some_from r es k (k + 1) c.e-item.result t' (omega (arith, c.loop-e-test.true)) (omega arith) c.e-item.is))
          ∙ c.loop-e.invariant.same j below r t' seen))));
      lighter = lighter_from es k (k + 1) _ (omega arith) c.loop-e.invariant.lighter;
    }

pub some_hold-returns-clause-plane : goal.some_hold-returns-clause-plane
some_hold-returns-clause-plane t c = λ read j below r t' seen.
    let es = c.args.es.now in
    sym (or_false (bit_in c.loop-e.out j))
    ∙ (ap (λ (ds : List Expr). bit_in c.loop-e.out j || list_any (λ (a : ℕ → Bool). a t') (truths_at r (formulas_in ds))) (sym (drop_past es c.loop-e.e-index (omega (arith, c.loop-e-test.false))))
    ∙ c.loop-e.invariant.same j below r t' seen)
