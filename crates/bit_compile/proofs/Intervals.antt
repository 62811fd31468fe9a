-- The values that a formula may have are those of its kind, and its value is among them.
use Rattle.std.proofs.Common.{◌≡◌, ℕ, zero, suc, ◌+◌, ◌-◌, ◌^◌, ◌<◌, ℤ, pos, neg_ℤ, ◌+ℤ◌, ◌-ℤ◌, ◌≤ℤ◌, nat_abs, Bool, true, false, ◌&&◌, ◌==◌, if◌then◌else◌, List, [], ◌∷◌, map, length, Option, Some, None, is_some, option_map, slice_get, get_or, refl, sym, ◌∙◌, ap, subst, arith, cond}
use Rattle.std.specs.Prelude.{int_le, int_lt, FitsSigned}
use Rattle.std.specs.Int.{w64, int_min, int_max}
use Rattle.std.specs.List.{list_any, list_all}
use Rattle.std.proofs.lemmas.Bool.{and_parts, and_from, false≢true}
use Rattle.std.proofs.lemmas.Int.{ints, clamps}
use Rattle.spec_model.specs.declared.value.Value.{Value}
use Rattle.spec_model.specs.declared.value.Value.TheVariants as value
use Rattle.spec_model.specs.declared.expr.Compare.{Compare}
use Rattle.spec_model.specs.Values.{DomainData, TruthValues, WholeNumbers, Enumeration, same_value, number_of, values_of, rising_from}
use Rattle.spec_model.specs.Syntax.{Formula, Constant, Variable, NextOf, Negation, Conjunction, Disjunction, Implication, Equivalence, Comparison, Sum, Difference, Product, Remainder, PastOf, Entry}
use Rattle.spec_model.specs.Typing.{Kind, Whole, Scope, whole, kind_of, kind_of_value, kind_of_domain, are_truths, is_truth, truth_if, compared, can_compare, summed, subtracted, multiplied, reduced, has_table, count_of, operands_of}
use Rattle.spec_model.specs.Games.{GameData}
use Rattle.spec_model.specs.WellMade.{is_domain}
use Rattle.spec_model.proofs.Domains.{in_range}
use Rattle.game_values.proofs.Spans.{IsWithin}
use Rattle.bit_compile.specs.declared.operation.Operation.TheVariants.{Add, Sub, Mul, Mod}
use Rattle.bit_compile.specs.Laid.{IsCountable}
use Rattle.bit_compile.specs.Compiled.{variable_domain, least, greatest, least_product, greatest_product, span_of, values_in}
use Rattle.bit_compile.proofs.DomainLemmas.{domain_countable, length-rising}

-- ---- the ends of an interval's values

get-rising : (n : ℕ) (z : ℤ) (i : ℕ) → i < n → get_or (rising_from z n) i (value.Bool false) ≡ value.Int (z +ℤ pos i)
get-rising zero z i h = absurd (omega arith)
get-rising (suc n) z zero h = let same : z ≡ z +ℤ pos 0 = omega (arith, ints) in ap value.Int same
get-rising (suc n) z (suc i) h = let same : (z +ℤ pos 1) +ℤ pos i ≡ z +ℤ pos (suc i) = omega (arith, ints) in get-rising n (z +ℤ pos 1) i (omega arith) ∙ ap value.Int same

rising-of : (lo hi : ℤ) → lo ≤ℤ hi → values_of (WholeNumbers lo hi) ≡ rising_from lo (nat_abs (hi -ℤ lo) + 1)
rising-of lo hi h = let rises : int_le lo hi ≡ true = grind (arith, ints) in ap (λ b. cond b (rising_from lo (nat_abs (hi -ℤ lo) + 1)) []) rises

pub least-is : (lo hi : ℤ) (vs : List Value) → lo ≤ℤ hi → vs ≡ values_of (WholeNumbers lo hi) → least vs ≡ lo
least-is lo hi vs h e =
    let same : lo +ℤ pos 0 ≡ lo = omega (arith, ints) in
    ap least (e ∙ rising-of lo hi h) ∙ (ap number_of (get-rising (nat_abs (hi -ℤ lo) + 1) lo 0 (omega arith)) ∙ same)

pub greatest-is : (lo hi : ℤ) (vs : List Value) → lo ≤ℤ hi → vs ≡ values_of (WholeNumbers lo hi) → greatest vs ≡ hi
greatest-is lo hi vs h e =
    let n : ℕ = nat_abs (hi -ℤ lo) in
    let long = length-rising lo (n + 1) in
    let last : length (rising_from lo (n + 1)) - 1 ≡ n = omega (arith, long) in
    let same : lo +ℤ pos (nat_abs (hi -ℤ lo)) ≡ hi = omega (arith, ints) in
    ap greatest (e ∙ rising-of lo hi h) ∙ (ap (λ i. number_of (get_or (rising_from lo (n + 1)) i (value.Bool false))) last ∙ (ap number_of (get-rising (n + 1) lo n (omega arith)) ∙ same))

-- ---- kinds

-- where the kind is an interval, these are its values, and it has one
abbrev pub IsInterval : Option Kind → List Value → Type 0
IsInterval (Some (Whole lo hi)) vs = (vs ≡ values_of (WholeNumbers lo hi)) × (lo ≤ℤ hi)
IsInterval _ vs = Unit {0}

interval_whole : (lo hi : ℤ) (vs : List Value) → vs ≡ values_of (WholeNumbers lo hi) → lo ≤ℤ hi → IsInterval (whole lo hi) vs
interval_whole lo hi vs e h = at (int_le (neg_ℤ (pos (10 ^ 12))) lo && int_le hi (pos (10 ^ 12)) && int_lt (hi -ℤ lo) (pos 4096))
  where
    at : (b : Bool) → IsInterval (if b then Some (Whole lo hi) else None) vs
    at true = (e, h)
    at false = tt

interval_truth : (b : Bool) (vs : List Value) → IsInterval (truth_if b) vs
interval_truth true vs = tt
interval_truth false vs = tt

interval_compared : (c : Compare) (p q : Option Kind) (vs : List Value) → IsInterval (compared c p q) vs
interval_compared c (Some a) (Some b) vs = interval_truth (can_compare c a b) vs
interval_compared c (Some a) None vs = tt
interval_compared c None q vs = tt

interval_constant : (v : Value) → IsInterval (kind_of_value v) (v ∷ [])
interval_constant (value.Bool b) = tt
interval_constant (value.Int z) =
    let same : z ≤ℤ z = omega (arith, ints) in
    let one : nat_abs (z -ℤ z) + 1 ≡ 1 = omega (arith, ints) in
    interval_whole z z (value.Int z ∷ []) (sym (rising-of z z same ∙ ap (rising_from z) one)) same
interval_constant (value.Name n) = tt

interval_domain : (d : DomainData) → is_domain d ≡ true → IsInterval (Some (kind_of_domain d)) (values_of d)
interval_domain TruthValues made = tt
interval_domain (WholeNumbers lo hi) made = let ordered = (and_parts (int_le lo hi) (is_some (whole lo hi)) made).0 in (refl, grind (arith, ints))
interval_domain (Enumeration names) made = tt

products_rise : (a b c d : ℤ) → least_product a b c d ≤ℤ greatest_product a b c d
products_rise a b c d = omega (arith, ints, clamps)

-- the span of two intervals, by their ends
pub span_sum : (a b c d : ℤ) (vs ws : List Value) → IsInterval (Some (Whole a b)) vs → IsInterval (Some (Whole c d)) ws → span_of Add vs ws ≡ WholeNumbers (a +ℤ c) (b +ℤ d)
span_sum a b c d vs ws h k = rw (least-is a b vs h.1 h.0, least-is c d ws k.1 k.0, greatest-is a b vs h.1 h.0, greatest-is c d ws k.1 k.0) refl

pub span_difference : (a b c d : ℤ) (vs ws : List Value) → IsInterval (Some (Whole a b)) vs → IsInterval (Some (Whole c d)) ws → span_of Sub vs ws ≡ WholeNumbers (a -ℤ d) (b -ℤ c)
span_difference a b c d vs ws h k = rw (least-is a b vs h.1 h.0, least-is c d ws k.1 k.0, greatest-is a b vs h.1 h.0, greatest-is c d ws k.1 k.0) refl

pub span_product : (a b c d : ℤ) (vs ws : List Value) → IsInterval (Some (Whole a b)) vs → IsInterval (Some (Whole c d)) ws →
    span_of Mul vs ws ≡ WholeNumbers (least_product a b c d) (greatest_product a b c d)
span_product a b c d vs ws h k = rw (least-is a b vs h.1 h.0, least-is c d ws k.1 k.0, greatest-is a b vs h.1 h.0, greatest-is c d ws k.1 k.0) refl

interval_sum : (p q : Option Kind) (vs ws : List Value) → IsInterval p vs → IsInterval q ws → IsInterval (summed p q) (values_of (span_of Add vs ws))
interval_sum (Some (Whole a b)) (Some (Whole c d)) vs ws h k = interval_whole (a +ℤ c) (b +ℤ d) _ (ap values_of (span_sum a b c d vs ws h k)) (omega (arith, ints, h.1, k.1))
interval_sum _ _ vs ws h k = tt

interval_difference : (p q : Option Kind) (vs ws : List Value) → IsInterval p vs → IsInterval q ws → IsInterval (subtracted p q) (values_of (span_of Sub vs ws))
interval_difference (Some (Whole a b)) (Some (Whole c d)) vs ws h k = interval_whole (a -ℤ d) (b -ℤ c) _ (ap values_of (span_difference a b c d vs ws h k)) (omega (arith, ints, h.1, k.1))
interval_difference _ _ vs ws h k = tt

interval_product : (p q : Option Kind) (vs ws : List Value) → IsInterval p vs → IsInterval q ws → IsInterval (multiplied p q) (values_of (span_of Mul vs ws))
interval_product (Some (Whole a b)) (Some (Whole c d)) vs ws h k = interval_whole (least_product a b c d) (greatest_product a b c d) _ (ap values_of (span_product a b c d vs ws h k)) (products_rise a b c d)
interval_product _ _ vs ws h k = tt

interval_remainder : (p : Option Kind) (n : ℤ) (vs : List Value) → IsInterval (reduced p n) (values_of (span_of Mod vs (value.Int n ∷ [])))
interval_remainder (Some (Whole a b)) n vs = at (int_lt (pos 0) n) refl
  where
    at : (t : Bool) → int_lt (pos 0) n ≡ t → IsInterval (if t then whole (pos 0) (n -ℤ pos 1) else None) (values_of (WholeNumbers (pos 0) (n -ℤ pos 1)))
    at true e = interval_whole (pos 0) (n -ℤ pos 1) _ refl (grind (arith, ints))
    at false e = tt
interval_remainder _ n vs = tt

pub get-there : {X : Type 0} (xs : List X) (k : ℕ) (a d : X) → slice_get xs k ≡ Some a → get_or xs k d ≡ a
get-there [] k a d e = cc (e)
get-there (x ∷ xs) zero a d e = cc (e)
get-there (x ∷ xs) (suc k) a d e = get-there xs k a d e

domain_made : (ds : List DomainData) (k : ℕ) (d : DomainData) → list_all is_domain ds ≡ true → slice_get ds k ≡ Some d → is_domain d ≡ true
domain_made [] k d all e = cc (e)
domain_made (x ∷ ds) zero d all e = let here = (and_parts (is_domain x) (list_all is_domain ds) all).0 in cc (e, here)
domain_made (x ∷ ds) (suc k) d all e = domain_made ds k d (and_parts (is_domain x) (list_all is_domain ds) all).1 e

module _ (g : GameData) (sc : Scope) (domains : sc.domains ≡ map (λ v. v.domain) g.variables) (made : list_all is_domain sc.domains ≡ true) where
  -- the domain of a variable that is there
  pub domain_there : (k : ℕ) (d : DomainData) → slice_get sc.domains k ≡ Some d → variable_domain g k ≡ d
  domain_there k d e = ap (λ (ds : List DomainData). get_or ds k TruthValues) (sym domains) ∙ get-there sc.domains k d TruthValues e

  interval_variable : (k : ℕ) → IsInterval (option_map kind_of_domain (slice_get sc.domains k)) (values_of (variable_domain g k))
  interval_variable k = at (slice_get sc.domains k) refl
    where
      at : (o : Option DomainData) → slice_get sc.domains k ≡ o → IsInterval (option_map kind_of_domain o) (values_of (variable_domain g k))
      at None e = tt
      at (Some d) e = subst (λ (x : DomainData). IsInterval (Some (kind_of_domain d)) (values_of x)) (sym (domain_there k d e)) (interval_domain d (domain_made sc.domains k d made e))

  -- the values of a formula are those of its kind's interval
  pub interval : (e : Formula) → IsInterval (kind_of sc e) (values_in g e)
  interval (Constant v) = interval_constant v
  interval (Variable k) = interval_variable k
  interval (NextOf e) = interval e
  interval (Negation e) = interval_truth (is_truth (kind_of sc e)) _
  interval (Conjunction es) = interval_truth (are_truths sc es) _
  interval (Disjunction es) = interval_truth (are_truths sc es) _
  interval (Implication a b) = interval_truth (is_truth (kind_of sc a) && is_truth (kind_of sc b)) _
  interval (Equivalence a b) = interval_truth (is_truth (kind_of sc a) && is_truth (kind_of sc b)) _
  interval (Comparison c a b) = interval_compared c (kind_of sc a) (kind_of sc b) _
  interval (Sum a b) = interval_sum (kind_of sc a) (kind_of sc b) (values_in g a) (values_in g b) (interval a) (interval b)
  interval (Difference a b) = interval_difference (kind_of sc a) (kind_of sc b) (values_in g a) (values_in g b) (interval a) (interval b)
  interval (Product a b) = interval_product (kind_of sc a) (kind_of sc b) (values_in g a) (values_in g b) (interval a) (interval b)
  interval (Remainder a n) = interval_remainder (kind_of sc a) n (values_in g a)
  interval (PastOf op es) = interval_truth (count_of es == operands_of op && are_truths sc es) _
  interval (Entry h n) = interval_truth (has_table sc.tables h n) _

-- ---- numbers among the values

whole_among : (lo hi : ℤ) (vs : List Value) (z : ℤ) → is_some (whole lo hi) ≡ true → IsInterval (whole lo hi) vs → IsWithin (whole lo hi) (value.Int z) → list_any (same_value (value.Int z)) vs ≡ true
whole_among lo hi vs z = at (int_le (neg_ℤ (pos (10 ^ 12))) lo && int_le hi (pos (10 ^ 12)) && int_lt (hi -ℤ lo) (pos 4096))
  where
    at : (b : Bool) → is_some (if b then Some (Whole lo hi) else None) ≡ true → IsInterval (if b then Some (Whole lo hi) else None) vs → IsWithin (if b then Some (Whole lo hi) else None) (value.Int z) → list_any (same_value (value.Int z)) vs ≡ true
    at true some is within = subst (λ (ws : List Value). list_any (same_value (value.Int z)) ws ≡ true) (sym is.0) ((in_range z lo hi).1 within)
    at false some is within = absurd (false≢true some)

pub sum_among : (p q : Option Kind) (vs : List Value) (z : ℤ) → is_some (summed p q) ≡ true → IsInterval (summed p q) vs → IsWithin (summed p q) (value.Int z) → list_any (same_value (value.Int z)) vs ≡ true
sum_among (Some (Whole a b)) (Some (Whole c d)) vs z some is within = whole_among (a +ℤ c) (b +ℤ d) vs z some is within
sum_among _ _ vs z some is within = absurd (false≢true some)

pub difference_among : (p q : Option Kind) (vs : List Value) (z : ℤ) → is_some (subtracted p q) ≡ true → IsInterval (subtracted p q) vs → IsWithin (subtracted p q) (value.Int z) → list_any (same_value (value.Int z)) vs ≡ true
difference_among (Some (Whole a b)) (Some (Whole c d)) vs z some is within = whole_among (a -ℤ d) (b -ℤ c) vs z some is within
difference_among _ _ vs z some is within = absurd (false≢true some)

pub product_among : (p q : Option Kind) (vs : List Value) (z : ℤ) → is_some (multiplied p q) ≡ true → IsInterval (multiplied p q) vs → IsWithin (multiplied p q) (value.Int z) → list_any (same_value (value.Int z)) vs ≡ true
product_among (Some (Whole a b)) (Some (Whole c d)) vs z some is within = whole_among (least_product a b c d) (greatest_product a b c d) vs z some is within
product_among _ _ vs z some is within = absurd (false≢true some)

pub remainder_among : (p : Option Kind) (n : ℤ) (vs : List Value) (z : ℤ) → is_some (reduced p n) ≡ true → IsInterval (reduced p n) vs → IsWithin (reduced p n) (value.Int z) → list_any (same_value (value.Int z)) vs ≡ true
remainder_among (Some (Whole a b)) n vs z some is within = at (int_lt (pos 0) n) some is within
  where
    at : (t : Bool) → is_some (if t then whole (pos 0) (n -ℤ pos 1) else None) ≡ true → IsInterval (if t then whole (pos 0) (n -ℤ pos 1) else None) vs → IsWithin (if t then whole (pos 0) (n -ℤ pos 1) else None) (value.Int z) → list_any (same_value (value.Int z)) vs ≡ true
    at true some is within = whole_among (pos 0) (n -ℤ pos 1) vs z some is within
    at false some is within = absurd (false≢true some)
remainder_among _ n vs z some is within = absurd (false≢true some)

-- ---- spans that can be counted

countable_whole : (lo hi : ℤ) → lo ≤ℤ hi → is_some (whole lo hi) ≡ true → IsCountable (WholeNumbers lo hi)
countable_whole lo hi h some = domain_countable (WholeNumbers lo hi) (and_from (int_le lo hi) (is_some (whole lo hi)) (grind (arith, ints)) some)

pub countable_sum : (p q : Option Kind) (vs ws : List Value) → is_some (summed p q) ≡ true → IsInterval p vs → IsInterval q ws → IsCountable (span_of Add vs ws)
countable_sum (Some (Whole a b)) (Some (Whole c d)) vs ws some h k = subst IsCountable (sym (span_sum a b c d vs ws h k)) (countable_whole (a +ℤ c) (b +ℤ d) (omega (arith, ints, h.1, k.1)) some)
countable_sum _ _ vs ws some h k = absurd (false≢true some)

pub countable_difference : (p q : Option Kind) (vs ws : List Value) → is_some (subtracted p q) ≡ true → IsInterval p vs → IsInterval q ws → IsCountable (span_of Sub vs ws)
countable_difference (Some (Whole a b)) (Some (Whole c d)) vs ws some h k = subst IsCountable (sym (span_difference a b c d vs ws h k)) (countable_whole (a -ℤ d) (b -ℤ c) (omega (arith, ints, h.1, k.1)) some)
countable_difference _ _ vs ws some h k = absurd (false≢true some)

pub countable_product : (p q : Option Kind) (vs ws : List Value) → is_some (multiplied p q) ≡ true → IsInterval p vs → IsInterval q ws → IsCountable (span_of Mul vs ws)
countable_product (Some (Whole a b)) (Some (Whole c d)) vs ws some h k = subst IsCountable (sym (span_product a b c d vs ws h k)) (countable_whole (least_product a b c d) (greatest_product a b c d) (products_rise a b c d) some)
countable_product _ _ vs ws some h k = absurd (false≢true some)

-- the divisor of a remainder is above 0
pub positive : (p : Option Kind) (n : ℤ) → is_some (reduced p n) ≡ true → int_lt (pos 0) n ≡ true
positive (Some (Whole a b)) n some = at (int_lt (pos 0) n) some
  where
    at : (t : Bool) → is_some (if t then whole (pos 0) (n -ℤ pos 1) else None) ≡ true → t ≡ true
    at true some = refl
    at false some = some
positive _ n some = absurd (false≢true some)

pub countable_remainder : (p : Option Kind) (n : ℤ) (vs : List Value) → is_some (reduced p n) ≡ true → IsCountable (span_of Mod vs (value.Int n ∷ []))
countable_remainder (Some (Whole a b)) n vs some = at (int_lt (pos 0) n) refl some
  where
    at : (t : Bool) → int_lt (pos 0) n ≡ t → is_some (if t then whole (pos 0) (n -ℤ pos 1) else None) ≡ true → IsCountable (WholeNumbers (pos 0) (n -ℤ pos 1))
    at true e some = countable_whole (pos 0) (n -ℤ pos 1) (grind (arith, ints)) some
    at false e some = absurd (false≢true some)
countable_remainder _ n vs some = absurd (false≢true some)

-- products whose least and greatest are within 10^12 fit 64 bits
pub products_fit : (p q r t : ℤ) → (pos 0 -ℤ pos (10 ^ 12)) ≤ℤ int_min (int_min p q) (int_min r t) → int_max (int_max p q) (int_max r t) ≤ℤ pos (10 ^ 12) → FitsSigned w64 r × FitsSigned w64 t
products_fit p q r t low high =
    let r_low : (pos 0 -ℤ pos (10 ^ 12)) ≤ℤ r = omega (arith, ints, clamps, low) in
    let r_high : r ≤ℤ pos (10 ^ 12) = omega (arith, ints, clamps, high) in
    let t_low : (pos 0 -ℤ pos (10 ^ 12)) ≤ℤ t = omega (arith, ints, clamps, low) in
    let t_high : t ≤ℤ pos (10 ^ 12) = omega (arith, ints, clamps, high) in
    (grind (arith, ints), grind (arith, ints))
