use Rattle.std.proofs.Common.{◌≡◌, ℕ, ◌+◌, ◌<◌, ◌≤◌, inl, inr, sym, ◌∙◌, ap, subst, arith, List, length, get_or, set, get_or-set_same, get_or-set_other}
use Rattle.std.proofs.lemmas.Bool.{cases_eq}
use Rattle.std.proofs.lemmas.List.{get_or_default}
use Rattle.bdd_cache.specs.declared.cell.Cell.{Cell}
use Rattle.bdd_cache.specs.declared.cell.TheConstants.{EMPTY}
use Rattle.bdd_cache.specs.Cells.{answer_in}
use Rattle.bdd_cache.specs.Kept.{IsSwept}
use Rattle.bdd_cache.proofs.answers.sweep.Goals as goal

pub loop-i-preserved : goal.loop-i-preserved
loop-i-preserved c =
    let i : ℕ = c.loop-i.i in
    let cells : List Cell = c.loop-i.cells.items in
    let inside : i < length cells = omega arith in
    let same : get_or c.args.cells.now.items i EMPTY ≡ c.index.result.now = sym (c.loop-i.invariant.left i (omega arith)) ∙ (get_or_default cells i EMPTY c.index.result.now inside ∙ sym c.index.ensures) in
    record {
      size = c.loop-i.invariant.size;
      capacity = c.loop-i.invariant.capacity;
      done = λ k below. elim (cases_eq k i) [
        | inl at ↦ rw at (subst (λ (x : Cell). IsSwept c.args.live.now (answer_in x) (answer_in (get_or (set cells i c.swept.result) i EMPTY))) (sym same)
            (subst (λ (x : Cell). IsSwept c.args.live.now (answer_in c.index.result.now) (answer_in x)) (sym (get_or-set_same cells i c.swept.result EMPTY inside)) c.swept.ensures))
        | inr other ↦ subst (λ (x : Cell). IsSwept c.args.live.now (answer_in (get_or c.args.cells.now.items k EMPTY)) (answer_in x)) (sym (get_or-set_other cells i k c.swept.result EMPTY other))
            (c.loop-i.invariant.done k (omega (arith, below, other)))
      ];
      left = λ k above. get_or-set_other cells i k c.swept.result EMPTY (λ same. absurd (omega (arith, above, same))) ∙ c.loop-i.invariant.left k (omega (arith, above));
    }
