-- Which values a domain has.
use Rattle.std.proofs.Common.{◌≡◌, ℕ, zero, suc, ◌+◌, ℤ, pos, ◌+ℤ◌, ◌-ℤ◌, ◌≤ℤ◌, ◌<ℤ◌, Bool, true, false, ◌&&◌, ◌||◌, ◌==◌, List, [], ◌∷◌, map, refl, sym, ◌∙◌, ap, arith, int_le, nat_abs, cond}
use Rattle.std.proofs.Common.{inl, inr, ◌⊎◌, ◌≤◌, length, drop}
use Rattle.std.proofs.lemmas.Bool.{and_parts, and_from, or_cases, or_left, or_right, false≢true}
use Rattle.std.proofs.lemmas.Bool.Decides.{nat_tests, Decides-int_eq, same_from_decides}
use Rattle.std.proofs.lemmas.Int.{ints}
use Rattle.std.specs.Bool.{Decides}
use Rattle.std.specs.List.{list_any}
use Rattle.std.specs.Ordering.{int_eq}
use Rattle.spec_model.specs.declared.value.Value.{Value}
use Rattle.spec_model.specs.declared.value.Value.TheVariants as value
use Rattle.spec_model.specs.Values.{same_value, is_assignment, rising_from, values_of, WholeNumbers}

-- a value that is no whole number is in no range
pub none_rising : (v : Value) → ((z : ℤ) → same_value v (value.Int z) ≡ false) → (n : ℕ) (lo : ℤ) → list_any (same_value v) (rising_from lo n) ≡ false
none_rising v other zero lo = refl
none_rising v other (suc n) lo = let here = other lo in let rest = none_rising v other n (lo +ℤ pos 1) in cc

pub none_in_range : (v : Value) → ((z : ℤ) → same_value v (value.Int z) ≡ false) → (lo hi : ℤ) → list_any (same_value v) (values_of (WholeNumbers lo hi)) ≡ false
none_in_range v other lo hi = within (int_le lo hi)
  where
    within : (b : Bool) → list_any (same_value v) (cond b (rising_from lo (nat_abs (hi -ℤ lo) + 1)) []) ≡ false
    within true = none_rising v other (nat_abs (hi -ℤ lo) + 1) lo
    within false = refl

-- one that is no name is in no enumeration
pub none_named : (v : Value) → ((n : ℕ) → same_value v (value.Name n) ≡ false) → (names : List ℕ) → list_any (same_value v) (map (λ n. value.Name n) names) ≡ false
none_named v other [] = refl
none_named v other (n ∷ names) = let here = other n in let rest = none_named v other names in cc

-- a name is in an enumeration where its number is
pub named : (n : ℕ) (names : List ℕ) → list_any (same_value (value.Name n)) (map (λ m. value.Name m) names) ≡ list_any (λ m. n == m) names
named n [] = refl
named n (m ∷ names) = ap (λ b. (n == m) || b) (named n names)

at_or_above : (lo z : ℤ) → lo ≤ℤ z → (z ≡ lo) ⊎ ((lo +ℤ pos 1) ≤ℤ z)
at_or_above lo z h = grind (arith, ints)

-- z is one of the n + 1 numbers from lo where it is lo or one of the n after it
module _ (z lo : ℤ) (n : ℕ) (found : Bool) (rest : Decides found (((lo +ℤ pos 1) ≤ℤ z) × (z <ℤ ((lo +ℤ pos 1) +ℤ pos n)))) where
  rises : (int_eq z lo ≡ true) ⊎ (found ≡ true) → (lo ≤ℤ z) × (z <ℤ (lo +ℤ pos (suc n)))
  rises (inl is) = let same = (Decides-int_eq z lo).0 is in (omega (arith, ints), omega (arith, ints))
  rises (inr later) = let low = (rest.0 later).0 in let high = (rest.0 later).1 in (omega (arith, ints), omega (arith, ints))

  risen : (z ≡ lo) ⊎ ((lo +ℤ pos 1) ≤ℤ z) → z <ℤ (lo +ℤ pos (suc n)) → (int_eq z lo || found) ≡ true
  risen (inl is) high = or_left _ _ ((Decides-int_eq z lo).1 is)
  risen (inr above) high = or_right _ _ (rest.1 (above, omega (arith, ints)))

outside : (z lo : ℤ) → lo ≤ℤ z → z <ℤ (lo +ℤ pos 0) → ⊥
outside z lo low high = omega (arith, ints)

-- a whole number is among those that rise from lo exactly where it lies between the ends
rising_has : (z : ℤ) (n : ℕ) (lo : ℤ) → Decides (list_any (same_value (value.Int z)) (rising_from lo n)) ((lo ≤ℤ z) × (z <ℤ (lo +ℤ pos n)))
rising_has z zero lo = (λ e. absurd (false≢true e), λ h. absurd (outside z lo h.0 h.1))
rising_has z (suc n) lo =
    let rest = rising_has z n (lo +ℤ pos 1) in
    (λ e. rises z lo n _ rest (or_cases _ _ e), λ h. risen z lo n _ rest (at_or_above lo z h.0) h.1)

-- a whole number is one of a range's exactly where it lies between the bounds
pub in_range : (z lo hi : ℤ) → Decides (list_any (same_value (value.Int z)) (values_of (WholeNumbers lo hi))) ((lo ≤ℤ z) × (z ≤ℤ hi))
in_range z lo hi = within (int_le lo hi) refl
  where
    within : (b : Bool) → int_le lo hi ≡ b → Decides (list_any (same_value (value.Int z)) (cond b (rising_from lo (nat_abs (hi -ℤ lo) + 1)) [])) ((lo ≤ℤ z) × (z ≤ℤ hi))
    within true e =
        let d = rising_has z (nat_abs (hi -ℤ lo) + 1) lo in
        let ordered : lo ≤ℤ hi = grind (arith, ints) in
        let ends : (lo +ℤ pos (nat_abs (hi -ℤ lo) + 1)) ≡ (hi +ℤ pos 1) = grind (arith, ints) in
        (λ h. ((d.0 h).0, (let high = (d.0 h).1 in omega (arith, ints))), λ h. d.1 (h.0, let high = h.1 in omega (arith, ints)))
    within false e = (λ h. absurd (false≢true h), λ h. absurd (let low = h.0 in let high = h.1 in grind (arith, ints)))

pub within : (z lo hi : ℤ) → (int_le lo z && int_le z hi) ≡ list_any (same_value (value.Int z)) (values_of (WholeNumbers lo hi))
within z lo hi = same_from_decides _ _ between (in_range z lo hi)
  where
    between : Decides (int_le lo z && int_le z hi) ((lo ≤ℤ z) × (z ≤ℤ hi))
    between = (λ e. let parts = and_parts (int_le lo z) (int_le z hi) e in (grind (arith, ints), grind (arith, ints)), λ h. let low = h.0 in let high = h.1 in and_from (int_le lo z) (int_le z hi) (grind (arith, ints)) (grind (arith, ints)))

-- a value of another kind than the domain's
pub no_number : (v : Value) → ((b : Bool) × (v ≡ value.Bool b)) ⊎ ((n : ℕ) × (v ≡ value.Name n)) → (z : ℤ) → same_value v (value.Int z) ≡ false
no_number v (inl h) z = rw (h.1) refl
no_number v (inr h) z = rw (h.1) refl

pub no_name : (v : Value) → ((b : Bool) × (v ≡ value.Bool b)) ⊎ ((z : ℤ) × (v ≡ value.Int z)) → (n : ℕ) → same_value v (value.Name n) ≡ false
no_name v (inl h) n = rw (h.1) refl
no_name v (inr h) n = rw (h.1) refl

-- where no domain is left, no value may be
pub no_more : (vs : List Value) (at : ℕ) → at ≤ length vs → is_assignment [] (drop at vs) ≡ (at == length vs)
no_more [] zero h = refl
no_more [] (suc at) h = absurd (omega arith)
no_more (v ∷ vs) zero h = let differ : (0 == suc (length vs)) ≡ false = grind (arith, nat_tests) in sym differ
no_more (v ∷ vs) (suc at) h =
    let rest = no_more vs at (omega arith) in
    let same : (suc at == suc (length vs)) ≡ (at == length vs) = grind (arith, nat_tests) in
    rest ∙ sym same
