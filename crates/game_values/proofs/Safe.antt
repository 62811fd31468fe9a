-- A well-made formula is safe to compute where each variable is in its domain.
use Rattle.std.proofs.Common.{◌≡◌, ℕ, suc, ℤ, pos, ◌-ℤ◌, ◌<ℤ◌, Bool, true, false, ◌&&◌, ◌==◌, if◌then◌else◌, Option, Some, None, is_some, option_map, slice_get, refl, arith}
use Rattle.std.specs.Prelude.{int_lt}
use Rattle.std.proofs.lemmas.Int.{ints}
use Rattle.std.proofs.lemmas.Bool.{and_parts, false≢true}
use Rattle.spec_model.specs.declared.value.Value.{Value}
use Rattle.spec_model.specs.declared.value.Value.TheVariants as value
use Rattle.spec_model.specs.declared.expr.Compare.{Compare}
use Rattle.spec_model.specs.Syntax.{Formula, Constant, Variable, NextOf, Negation, Conjunction, Disjunction, Implication, Equivalence, Comparison, Sum, Difference, Product, Remainder, PastOf, Entry, Formulas}
use Rattle.spec_model.specs.Meaning.{Reading, value_at}
use Rattle.spec_model.specs.Typing.{whole, Kind, Truth, Whole, NameOf, OneName, Scope, kind_of, kind_of_value, kind_of_domain, are_truths, is_truth, truth_if, compared, can_compare, summed, subtracted, multiplied, reduced, has_table, count_of, operands_of}
use Rattle.spec_model.specs.WellMade.{is_stepwise, are_stepwise}
use Rattle.game_values.specs.Safety.{IsSafe, AreSafe}
use Rattle.game_values.proofs.Spans.{IsWithin, within_whole, within_sum, within_difference, within_product, within_remainder, fits_sum, fits_difference, fits_product}

-- each variable is within its domain's interval
abbrev pub IsTyped : Scope → Reading → Type 0
IsTyped sc r = (k t : ℕ) → IsWithin (option_map kind_of_domain (slice_get sc.domains k)) (r.variable k t)

within_truth : (b : Bool) (v : Value) → IsWithin (truth_if b) v
within_truth true v = tt
within_truth false v = tt

within_compared : (c : Compare) (p q : Option Kind) (v : Value) → IsWithin (compared c p q) v
within_compared c (Some a) (Some b) v = within_truth (can_compare c a b) v
within_compared c (Some a) None v = tt
within_compared c None q v = tt

within_constant : (v : Value) → IsWithin (kind_of_value v) v
within_constant (value.Bool b) = tt
within_constant (value.Int z) = within_whole z z z (omega (arith, ints)) (omega (arith, ints))
within_constant (value.Name n) = tt

module _ (sc : Scope) (r : Reading) (typed : IsTyped sc r) where
  -- a formula's number is within its span
  pub within : (e : Formula) (t : ℕ) → IsWithin (kind_of sc e) (value_at r e t)
  within (Constant v) t = within_constant v
  within (Variable k) t = typed k t
  within (NextOf e) t = within e (suc t)
  within (Negation e) t = within_truth (is_truth (kind_of sc e)) (value_at r (Negation e) t)
  within (Conjunction es) t = within_truth (are_truths sc es) (value_at r (Conjunction es) t)
  within (Disjunction es) t = within_truth (are_truths sc es) (value_at r (Disjunction es) t)
  within (Implication a b) t = within_truth (is_truth (kind_of sc a) && is_truth (kind_of sc b)) (value_at r (Implication a b) t)
  within (Equivalence a b) t = within_truth (is_truth (kind_of sc a) && is_truth (kind_of sc b)) (value_at r (Equivalence a b) t)
  within (Comparison c a b) t = within_compared c (kind_of sc a) (kind_of sc b) (value_at r (Comparison c a b) t)
  within (Sum a b) t = within_sum (kind_of sc a) (kind_of sc b) (value_at r a t) (value_at r b t) (within a t) (within b t)
  within (Difference a b) t = within_difference (kind_of sc a) (kind_of sc b) (value_at r a t) (value_at r b t) (within a t) (within b t)
  within (Product a b) t = within_product (kind_of sc a) (kind_of sc b) (value_at r a t) (value_at r b t) (within a t) (within b t)
  within (Remainder a n) t = within_remainder (kind_of sc a) n (value_at r a t)
  within (PastOf op es) t = within_truth (count_of es == operands_of op && are_truths sc es) (value_at r (PastOf op es) t)
  within (Entry h n) t = within_truth (has_table sc.tables h n) (value_at r (Entry h n) t)

-- ---- from a formula's kind to those of its parts

truth_holds : (b : Bool) → is_some (truth_if b) ≡ true → b ≡ true
truth_holds true e = refl
truth_holds false e = e

some_truth : (p : Option Kind) → is_truth p ≡ true → is_some p ≡ true
some_truth (Some Truth) e = refl
some_truth (Some (Whole a b)) e = refl
some_truth (Some (NameOf ns)) e = refl
some_truth (Some (OneName n)) e = refl
some_truth None e = e

both_compared : (c : Compare) (p q : Option Kind) → is_some (compared c p q) ≡ true → (is_some p ≡ true) × (is_some q ≡ true)
both_compared c (Some a) (Some b) e = (refl, refl)
both_compared c (Some a) None e = absurd (false≢true e)
both_compared c None q e = absurd (false≢true e)

both_summed : (p q : Option Kind) → is_some (summed p q) ≡ true → (is_some p ≡ true) × (is_some q ≡ true)
both_summed (Some (Whole a b)) (Some (Whole c d)) e = (refl, refl)
both_summed _ _ e = absurd (false≢true e)

both_subtracted : (p q : Option Kind) → is_some (subtracted p q) ≡ true → (is_some p ≡ true) × (is_some q ≡ true)
both_subtracted (Some (Whole a b)) (Some (Whole c d)) e = (refl, refl)
both_subtracted _ _ e = absurd (false≢true e)

both_multiplied : (p q : Option Kind) → is_some (multiplied p q) ≡ true → (is_some p ≡ true) × (is_some q ≡ true)
both_multiplied (Some (Whole a b)) (Some (Whole c d)) e = (refl, refl)
both_multiplied _ _ e = absurd (false≢true e)

one_reduced : (p : Option Kind) (n : ℤ) → is_some (reduced p n) ≡ true → (is_some p ≡ true) × (pos 0 <ℤ n)
one_reduced (Some (Whole a b)) n e = (refl, at (int_lt (pos 0) n) refl e)
  where
    at : (t : Bool) → int_lt (pos 0) n ≡ t → is_some (if t then whole (pos 0) (n -ℤ pos 1) else None) ≡ true → pos 0 <ℤ n
    at true positive e = grind (arith, ints)
    at false positive e = absurd (false≢true e)
one_reduced _ n e = absurd (false≢true e)

-- the moment that a formula reads: the next one under `next`
abbrev time : Bool → ℕ
time false = 0
time true = 1

module _ (sc : Scope) (r : Reading) (typed : IsTyped sc r) where
  mutual
    safe : (e : Formula) (u : Bool) → is_some (kind_of sc e) ≡ true → is_stepwise u e ≡ true → IsSafe r e (time u)
    safe (Constant v) u k s = tt
    safe (Variable n) u k s = tt
    safe (NextOf e) true k s = absurd (false≢true s)
    safe (NextOf e) false k s = safe e true k s
    safe (Negation e) u k s = safe e u (some_truth (kind_of sc e) (truth_holds _ k)) s
    safe (Conjunction es) u k s = each_safe es u (truth_holds (are_truths sc es) k) s
    safe (Disjunction es) u k s = each_safe es u (truth_holds (are_truths sc es) k) s
    safe (Implication a b) u k s =
        let ks = and_parts (is_truth (kind_of sc a)) (is_truth (kind_of sc b)) (truth_holds (is_truth (kind_of sc a) && is_truth (kind_of sc b)) k) in
        let ss = and_parts (is_stepwise u a) (is_stepwise u b) s in
        (safe a u (some_truth (kind_of sc a) ks.0) ss.0, safe b u (some_truth (kind_of sc b) ks.1) ss.1)
    safe (Equivalence a b) u k s =
        let ks = and_parts (is_truth (kind_of sc a)) (is_truth (kind_of sc b)) (truth_holds (is_truth (kind_of sc a) && is_truth (kind_of sc b)) k) in
        let ss = and_parts (is_stepwise u a) (is_stepwise u b) s in
        (safe a u (some_truth (kind_of sc a) ks.0) ss.0, safe b u (some_truth (kind_of sc b) ks.1) ss.1)
    safe (Comparison c a b) u k s =
        let ks = both_compared c (kind_of sc a) (kind_of sc b) k in
        let ss = and_parts (is_stepwise u a) (is_stepwise u b) s in
        (safe a u ks.0 ss.0, safe b u ks.1 ss.1)
    safe (Sum a b) u k s =
        let ks = both_summed (kind_of sc a) (kind_of sc b) k in
        let ss = and_parts (is_stepwise u a) (is_stepwise u b) s in
        (safe a u ks.0 ss.0, safe b u ks.1 ss.1, fits_sum (kind_of sc a) (kind_of sc b) (value_at r a (time u)) (value_at r b (time u)) (within sc r typed a (time u)) (within sc r typed b (time u)) k)
    safe (Difference a b) u k s =
        let ks = both_subtracted (kind_of sc a) (kind_of sc b) k in
        let ss = and_parts (is_stepwise u a) (is_stepwise u b) s in
        (safe a u ks.0 ss.0, safe b u ks.1 ss.1, fits_difference (kind_of sc a) (kind_of sc b) (value_at r a (time u)) (value_at r b (time u)) (within sc r typed a (time u)) (within sc r typed b (time u)) k)
    safe (Product a b) u k s =
        let ks = both_multiplied (kind_of sc a) (kind_of sc b) k in
        let ss = and_parts (is_stepwise u a) (is_stepwise u b) s in
        (safe a u ks.0 ss.0, safe b u ks.1 ss.1, fits_product (kind_of sc a) (kind_of sc b) (value_at r a (time u)) (value_at r b (time u)) (within sc r typed a (time u)) (within sc r typed b (time u)) k)
    safe (Remainder a n) u k s = let ks = one_reduced (kind_of sc a) n k in (safe a u ks.0 s, ks.1)
    safe (PastOf op es) u k s = absurd (false≢true s)
    safe (Entry h n) u k s = tt

    each_safe : (es : Formulas) (u : Bool) → are_truths sc es ≡ true → are_stepwise u es ≡ true → AreSafe r es (time u)
    each_safe Formulas.none u k s = tt
    each_safe (Formulas.one_more e es) u k s =
        let ks = and_parts (is_truth (kind_of sc e)) (are_truths sc es) k in
        let ss = and_parts (is_stepwise u e) (are_stepwise u es) s in
        (safe e u (some_truth (kind_of sc e) ks.0) ss.0, each_safe es u ks.1 ss.1)

  -- a step formula may be asked for at a moment
  pub step_safe : (e : Formula) → (is_truth (kind_of sc e) && is_stepwise false e) ≡ true → IsSafe r e 0
  step_safe e made = let parts = and_parts (is_truth (kind_of sc e)) (is_stepwise false e) made in safe e false (some_truth (kind_of sc e) parts.0) parts.1
