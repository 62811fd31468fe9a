-- Formulas that the tables are made for: each past operator has its operands, `next` stands in none of them, and there is
-- no entry.
use Rattle.std.proofs.Common.{◌≡◌, ℕ, ℤ, Bool, true, false, not, ◌&&◌, ◌==◌, Option, Some, None, is_some, refl}
use Rattle.std.proofs.lemmas.Bool.{and_parts, and_from, false≢true}
use Rattle.spec_model.specs.declared.expr.Compare.{Compare}
use Rattle.spec_model.specs.Syntax.{Formula, Constant, Variable, NextOf, Negation, Conjunction, Disjunction, Implication, Equivalence, Comparison, Sum, Difference, Product, Remainder, PastOf, Entry, Formulas}
use Rattle.spec_model.specs.Typing.{Kind, Truth, Whole, NameOf, OneName, Scope, kind_of, are_truths, is_truth, truth_if, compared, summed, subtracted, multiplied, reduced, count_of, operands_of}
use Rattle.spec_model.specs.WellTyped.{is_nested_well, are_nested_well, is_typed}

abbrev mutual
  pub is_plain : (next : Bool) → Formula → Bool
  is_plain n (Constant v) = true
  is_plain n (Variable k) = true
  is_plain n (NextOf e) = n && is_plain n e
  is_plain n (Negation e) = is_plain n e
  is_plain n (Conjunction es) = are_plain n es
  is_plain n (Disjunction es) = are_plain n es
  is_plain n (Implication a b) = is_plain n a && is_plain n b
  is_plain n (Equivalence a b) = is_plain n a && is_plain n b
  is_plain n (Comparison c a b) = is_plain n a && is_plain n b
  is_plain n (Sum a b) = is_plain n a && is_plain n b
  is_plain n (Difference a b) = is_plain n a && is_plain n b
  is_plain n (Product a b) = is_plain n a && is_plain n b
  is_plain n (Remainder a k) = is_plain n a
  is_plain n (PastOf op es) = count_of es == operands_of op && are_plain false es
  is_plain n (Entry h k) = false

  pub are_plain : (next : Bool) → Formulas → Bool
  are_plain n Formulas.none = true
  are_plain n (Formulas.one_more e es) = is_plain n e && are_plain n es

-- ---- from a formula's kind to those of its parts

pub truth_holds : (b : Bool) → is_some (truth_if b) ≡ true → b ≡ true
truth_holds true e = refl
truth_holds false e = e

pub some_truth : (p : Option Kind) → is_truth p ≡ true → is_some p ≡ true
some_truth (Some Truth) e = refl
some_truth (Some (Whole a b)) e = refl
some_truth (Some (NameOf ns)) e = refl
some_truth (Some (OneName n)) e = refl
some_truth None e = e

pub both_compared : (c : Compare) (p q : Option Kind) → is_some (compared c p q) ≡ true → (is_some p ≡ true) × (is_some q ≡ true)
both_compared c (Some a) (Some b) e = (refl, refl)
both_compared c (Some a) None e = absurd (false≢true e)
both_compared c None q e = absurd (false≢true e)

pub both_summed : (p q : Option Kind) → is_some (summed p q) ≡ true → (is_some p ≡ true) × (is_some q ≡ true)
both_summed (Some (Whole a b)) (Some (Whole c d)) e = (refl, refl)
both_summed _ _ e = absurd (false≢true e)

pub both_subtracted : (p q : Option Kind) → is_some (subtracted p q) ≡ true → (is_some p ≡ true) × (is_some q ≡ true)
both_subtracted (Some (Whole a b)) (Some (Whole c d)) e = (refl, refl)
both_subtracted _ _ e = absurd (false≢true e)

pub both_multiplied : (p q : Option Kind) → is_some (multiplied p q) ≡ true → (is_some p ≡ true) × (is_some q ≡ true)
both_multiplied (Some (Whole a b)) (Some (Whole c d)) e = (refl, refl)
both_multiplied _ _ e = absurd (false≢true e)

pub one_reduced : (p : Option Kind) (n : ℤ) → is_some (reduced p n) ≡ true → is_some p ≡ true
one_reduced (Some (Whole a b)) n e = refl
one_reduced _ n e = absurd (false≢true e)

module _ (sc : Scope) (m : ℕ) where
  mutual
    plain : (e : Formula) (u p : Bool) → is_some (kind_of sc e) ≡ true → is_nested_well m u p e ≡ true → is_plain (not p) e ≡ true
    plain (Constant v) u p k w = refl
    plain (Variable n) u p k w = refl
    plain (NextOf e) u p k w =
        let first = and_parts (not u) (not p && is_nested_well m true p e) w in
        let second = and_parts (not p) (is_nested_well m true p e) first.1 in
        and_from (not p) (is_plain (not p) e) second.0 (plain e true p k second.1)
    plain (Negation e) u p k w = plain e u p (some_truth (kind_of sc e) (truth_holds (is_truth (kind_of sc e)) k)) w
    plain (Conjunction es) u p k w = each_plain es u p (truth_holds (are_truths sc es) k) w
    plain (Disjunction es) u p k w = each_plain es u p (truth_holds (are_truths sc es) k) w
    plain (Implication a b) u p k w =
        let ks' = and_parts (is_truth (kind_of sc a)) (is_truth (kind_of sc b)) (truth_holds (is_truth (kind_of sc a) && is_truth (kind_of sc b)) k) in
        let ka = some_truth (kind_of sc a) ks'.0 in let kb = some_truth (kind_of sc b) ks'.1 in
        let ws = and_parts (is_nested_well m u p a) (is_nested_well m u p b) w in
        and_from (is_plain (not p) a) (is_plain (not p) b) (plain a u p ka ws.0) (plain b u p kb ws.1)
    plain (Equivalence a b) u p k w =
        let ks' = and_parts (is_truth (kind_of sc a)) (is_truth (kind_of sc b)) (truth_holds (is_truth (kind_of sc a) && is_truth (kind_of sc b)) k) in
        let ka = some_truth (kind_of sc a) ks'.0 in let kb = some_truth (kind_of sc b) ks'.1 in
        let ws = and_parts (is_nested_well m u p a) (is_nested_well m u p b) w in
        and_from (is_plain (not p) a) (is_plain (not p) b) (plain a u p ka ws.0) (plain b u p kb ws.1)
    plain (Comparison c a b) u p k w =
        let ks' = both_compared c (kind_of sc a) (kind_of sc b) k in let ka = ks'.0 in let kb = ks'.1 in
        let ws = and_parts (is_nested_well m u p a) (is_nested_well m u p b) w in
        and_from (is_plain (not p) a) (is_plain (not p) b) (plain a u p ka ws.0) (plain b u p kb ws.1)
    plain (Sum a b) u p k w =
        let ks' = both_summed (kind_of sc a) (kind_of sc b) k in let ka = ks'.0 in let kb = ks'.1 in
        let ws = and_parts (is_nested_well m u p a) (is_nested_well m u p b) w in
        and_from (is_plain (not p) a) (is_plain (not p) b) (plain a u p ka ws.0) (plain b u p kb ws.1)
    plain (Difference a b) u p k w =
        let ks' = both_subtracted (kind_of sc a) (kind_of sc b) k in let ka = ks'.0 in let kb = ks'.1 in
        let ws = and_parts (is_nested_well m u p a) (is_nested_well m u p b) w in
        and_from (is_plain (not p) a) (is_plain (not p) b) (plain a u p ka ws.0) (plain b u p kb ws.1)
    plain (Product a b) u p k w =
        let ks' = both_multiplied (kind_of sc a) (kind_of sc b) k in let ka = ks'.0 in let kb = ks'.1 in
        let ws = and_parts (is_nested_well m u p a) (is_nested_well m u p b) w in
        and_from (is_plain (not p) a) (is_plain (not p) b) (plain a u p ka ws.0) (plain b u p kb ws.1)
    plain (Remainder a n) u p k w = plain a u p (one_reduced (kind_of sc a) n k) w
    plain (PastOf op es) u p k w =
        let ks = and_parts (count_of es == operands_of op) (are_truths sc es) (truth_holds (count_of es == operands_of op && are_truths sc es) k) in
        let ws = and_parts (not u) (are_nested_well m u true es) w in
        and_from (count_of es == operands_of op) (are_plain false es) ks.0 (each_plain es u true ks.1 ws.1)
    plain (Entry h n) u p k w = w

    each_plain : (es : Formulas) (u p : Bool) → are_truths sc es ≡ true → are_nested_well m u p es ≡ true → are_plain (not p) es ≡ true
    each_plain Formulas.none u p k w = refl
    each_plain (Formulas.one_more e es) u p k w =
        let ks = and_parts (is_truth (kind_of sc e)) (are_truths sc es) k in
        let ws = and_parts (is_nested_well m u p e) (are_nested_well m u p es) w in
        and_from (is_plain (not p) e) (are_plain (not p) es) (plain e u p (some_truth (kind_of sc e) ks.0) ws.0) (each_plain es u p ks.1 ws.1)

  pub typed_plain : (e : Formula) → is_typed sc m e ≡ true → is_plain true e ≡ true
  typed_plain e is = let parts = and_parts (is_truth (kind_of sc e)) (is_nested_well m false false e) is in plain e false false (some_truth (kind_of sc e) parts.0) parts.1
