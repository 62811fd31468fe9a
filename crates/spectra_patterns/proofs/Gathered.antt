-- Operators that are added: there are never fewer, and in the end they are the different ones of all lines.
use Rattle.std.proofs.Common.{◌≡◌, ℕ, ◌+◌, ◌<◌, ◌≤◌, Bool, true, false, cond, List, [], ◌∷◌, ◌++◌, length, map, flat_map, drop, get_or, sym, ap, ◌∙◌, arith}
use Rattle.std.specs.List.{list_any}
use Rattle.std.proofs.lemmas.List.{length-append}
use Rattle.std.proofs.lemmas.Grind.{flat_map-append}
use Rattle.spec_model.specs.declared.expr.Expr.{Expr}
use Rattle.spec_model.specs.declared.expr.Regex.{Regex}
use Rattle.spec_model.specs.declared.spec.Trigger.{Trigger}
use Rattle.spec_model.specs.Views.{formula, regular, trigger_data}
use Rattle.game_values.specs.Safety.{formulas_in}
use Rattle.spectra_judge.proofs.Lists.{mapped_left}
use Rattle.spec_model.specs.Syntax.{Formula, formulas, regulars, TriggerUse}
use Rattle.spec_model.specs.Sizes.{same_formula, distinct, past_trees, past_trees_of_all, atoms_of, atoms_of_all}
use Rattle.past_bits.specs.Entries.{with_operator, added}
use Rattle.past_bits.proofs.Places.{added-append}
use Rattle.past_bits.proofs.Collected.{added-nil, atoms_at, no_atoms}
use Rattle.spectra_patterns.specs.Gathering.{past_in}

one_grows : (ops : List Formula) (e : Formula) → length ops ≤ length (with_operator ops e)
one_grows ops e = by (list_any (same_formula e) ops)
  where
    by : (b : Bool) → length ops ≤ length (cond b ops (ops ++ e ∷ []))
    by true = omega arith
    by false = omega (arith, length-append ops (e ∷ []))

pub grows : (ops es : List Formula) → length ops ≤ length (added ops es)
grows ops [] = omega arith
grows ops (e ∷ es) = let one = one_grows ops e in let rest = grows (with_operator ops e) es in omega (arith, one, rest)

-- where there are too many of the first ones, there are too many of all
pub many_more : (most : ℕ) (ops es fs : List Formula) → most < length (added ops es) → most < length (added (added ops es) fs)
many_more most ops es fs many = let rest = grows (added ops es) fs in omega (arith, rest, many)

-- those of more lines are put behind those of some
pub distinct_more : (es fs : List Formula) → added (distinct es) fs ≡ distinct (es ++ fs)
distinct_more es fs = ap (λ ops. added ops fs) (sym (added-nil es)) ∙ sym (added-append [] es fs) ∙ added-nil (es ++ fs)

-- those of what is left are those of the next one and of what is left behind it
pub each_more : (ops : List Formula) (es : List Expr) (k : ℕ) (e : Expr) → k < length es → e ≡ get_or es k e →
    added (added ops (past_trees (formula e))) (past_trees_of_all (formulas_in (drop (k + 1) es))) ≡ added ops (past_trees_of_all (formulas_in (drop k es)))
each_more ops es k e below is =
    sym (added-append ops (past_trees (formula e)) (past_trees_of_all (formulas_in (drop (k + 1) es))))
    ∙ ap (λ fs. added ops (past_trees_of_all (formulas fs))) (sym (mapped_left formula es k e below is))

pub regexes_more : (ops : List Formula) (rs : List Regex) (k : ℕ) (r : Regex) → k < length rs → r ≡ get_or rs k r →
    added (added ops (flat_map past_trees (atoms_of (regular r)))) (flat_map past_trees (atoms_of_all (regulars (map regular (drop (k + 1) rs))))) ≡ added ops (flat_map past_trees (atoms_of_all (regulars (map regular (drop k rs)))))
regexes_more ops rs k r below is =
    sym (added-append ops (flat_map past_trees (atoms_of (regular r))) (flat_map past_trees (atoms_of_all (regulars (map regular (drop (k + 1) rs))))))
    ∙ ap (added ops) (sym (flat_map-append past_trees (atoms_of (regular r)) (atoms_of_all (regulars (map regular (drop (k + 1) rs))))))
    ∙ ap (λ xs. added ops (flat_map past_trees (atoms_of_all (regulars xs)))) (sym (mapped_left regular rs k r below is))

-- those of a trigger are those of its cause and of its effect
pub trigger_past : (ops : List Formula) (ts : List Trigger) (k : ℕ) (t : Trigger) → k < length ts → t ≡ get_or ts k t →
    added (added ops (flat_map past_trees (atoms_of (regular t.cause)))) (flat_map past_trees (atoms_of (regular t.effect))) ≡ added ops (past_in (map trigger_data ts) (TriggerUse k))
trigger_past ops ts k t below is =
    sym (added-append ops (flat_map past_trees (atoms_of (regular t.cause))) (flat_map past_trees (atoms_of (regular t.effect))))
    ∙ ap (added ops) (sym (flat_map-append past_trees (atoms_of (regular t.cause)) (atoms_of (regular t.effect))) ∙ ap (flat_map past_trees) (sym (atoms_at ts k t below is)))

pub no_past : (ops : List Formula) (ts : List Trigger) (k : ℕ) → length ts ≤ k → ops ≡ added ops (past_in (map trigger_data ts) (TriggerUse k))
no_past ops ts k past = ap (λ fs. added ops (flat_map past_trees fs)) (sym (no_atoms ts k past))
