-- The values of an assignment are within the intervals of their domains.
use Rattle.std.proofs.Common.{◌≡◌, ℕ, zero, suc, ◌+◌, ℤ, pos, ◌+ℤ◌, ◌-ℤ◌, ◌≤ℤ◌, Bool, true, false, if◌then◌else◌, List, [], ◌∷◌, ◌++◌, length, map, replicate, Some, option_map, slice_get, get_or, refl, sym, subst, arith, inl, inr}
use Rattle.std.specs.Prelude.{int_le, nat_abs}
use Rattle.std.specs.List.{list_any}
use Rattle.std.proofs.lemmas.Bool.{and_parts, or_cases, false≢true}
use Rattle.std.proofs.lemmas.Int.{ints}
use Rattle.spec_model.specs.declared.value.Value.{Value}
use Rattle.spec_model.specs.declared.value.Value.TheVariants as value
use Rattle.spec_model.specs.Values.{DomainData, TruthValues, WholeNumbers, Enumeration, same_value, values_of, rising_from, is_assignment}
use Rattle.spec_model.specs.Typing.{Whole, kind_of_domain}
use Rattle.spec_model.proofs.AllStates.{Every, same_value-true}
use Rattle.game_values.proofs.Spans.{IsWithin}

rising_within : (lo hi z : ℤ) (n : ℕ) → lo ≤ℤ z → (z +ℤ pos n) ≤ℤ (hi +ℤ pos 1) → Every (λ v. IsWithin (Some (Whole lo hi)) v) (rising_from z n)
rising_within lo hi z zero low high = tt
rising_within lo hi z (suc n) low high = ((low, omega (arith, ints)), rising_within lo hi (z +ℤ pos 1) n (omega (arith, ints)) (omega (arith, ints)))

each : {P : Value → Type 0} → ((v : Value) → P v) → (vs : List Value) → Every P vs
each all [] = tt
each all (v ∷ vs) = (all v, each all vs)

values_within : (d : DomainData) → Every (λ v. IsWithin (Some (kind_of_domain d)) v) (values_of d)
values_within TruthValues = (tt, (tt, tt))
values_within (WholeNumbers lo hi) = at (int_le lo hi) refl
  where
    spans : (lo hi : ℤ) → lo ≤ℤ hi → (lo +ℤ pos (nat_abs (hi -ℤ lo) + 1)) ≤ℤ (hi +ℤ pos 1)
    spans lo hi h = omega (arith, ints)

    at : (b : Bool) → int_le lo hi ≡ b → Every (λ v. IsWithin (Some (Whole lo hi)) v) (if b then rising_from lo (nat_abs (hi -ℤ lo) + 1) else [])
    at true e = let rising : lo ≤ℤ hi = grind (arith, ints) in rising_within lo hi lo (nat_abs (hi -ℤ lo) + 1) (omega (arith, ints)) (spans lo hi rising)
    at false e = tt
values_within (Enumeration ns) = each (λ v. tt) (map (λ n. value.Name n) ns)

at_value : (P : Value → Type 0) (vs : List Value) → Every P vs → (v : Value) → list_any (same_value v) vs ≡ true → P v
at_value P [] all v e = absurd (false≢true e)
at_value P (w ∷ vs) all v e = elim (or_cases _ _ e) [ inl here ↦ subst P (sym (same_value-true v w here)) all.0 | inr later ↦ at_value P vs all.1 v later ]

own_within : (ds : List DomainData) (vs : List Value) → is_assignment ds vs ≡ true → (k : ℕ) → IsWithin (option_map kind_of_domain (slice_get ds k)) (get_or vs k (value.Bool false))
own_within [] vs fits k = tt
own_within (d ∷ ds) [] fits k = absurd (false≢true fits)
own_within (d ∷ ds) (v ∷ vs) fits zero = at_value (λ v. IsWithin (Some (kind_of_domain d)) v) (values_of d) (values_within d) v (and_parts (list_any (same_value v) (values_of d)) (is_assignment ds vs) fits).0
own_within (d ∷ ds) (v ∷ vs) fits (suc k) = own_within ds vs (and_parts (list_any (same_value v) (values_of d)) (is_assignment ds vs) fits).1 k

-- parameters, and the own variables behind them
pub all_within : (n : ℕ) (ds : List DomainData) (letter vs : List Value) → length letter ≡ n → is_assignment ds vs ≡ true → (k : ℕ) →
    IsWithin (option_map kind_of_domain (slice_get (replicate n TruthValues ++ ds) k)) (get_or (letter ++ vs) k (value.Bool false))
all_within zero ds [] vs long fits k = own_within ds vs fits k
all_within zero ds (v ∷ letter) vs long fits k = absurd (omega arith)
all_within (suc n) ds [] vs long fits k = absurd (omega arith)
all_within (suc n) ds (v ∷ letter) vs long fits zero = tt
all_within (suc n) ds (v ∷ letter) vs long fits (suc k) = all_within n ds letter vs (omega arith) fits k
