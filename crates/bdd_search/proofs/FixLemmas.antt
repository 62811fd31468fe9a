-- Bits that are fixed, number by number.
use Rattle.std.proofs.Common.{◌≡◌, ℕ, suc, ◌+◌, ◌-◌, ◌^◌, ◌<◌, ◌≤◌, nat_le, Bool, true, false, not, Option, Some, None, List, length, set, get_or-set_same, get_or-set_other, refl, sym, ◌∙◌, ap, subst, arith, ◌⊎◌, inl, inr}
use Rattle.std.proofs.lemmas.Bool.{false≢true, and_parts}
use Rattle.std.proofs.lemmas.Bool.Decides.{nat_tests}
use Rattle.std.proofs.lemmas.List.{get_or_past}
use Rattle.spec_model.specs.declared.value.Value.{Value}
use Rattle.spec_model.specs.Values.{DomainData}
use Rattle.spec_model.specs.Diagrams.{Bits}
use Rattle.game_values.specs.declared.seen.At.{At}
use Rattle.bdd_ops.specs.Paths.{AgreesAt, fixed_at, Agrees}
use Rattle.bit_compile.specs.Codes.{has_number, level_at, width_at}
use Rattle.bit_compile.specs.Laid.{IsOutside}
use Rattle.bit_compile.proofs.NumberLemmas.{number_high, number_low}
use Rattle.bit_compile.proofs.SlotLemmas.{earlier_before, others_outside}
use Rattle.bdd_search.specs.Parts.{value_in, has_value_at, AgreesWithin, IsFixedTo, AreFixed}

-- ---- nothing fixed

-- the places before this one fix nothing
abbrev pub FixesNone : List (Option Bool) → ℕ → Type 0
FixesNone fixed count = (m : ℕ) → m < count → fixed_at fixed m ≡ None

pub none_more : (fixed : List (Option Bool)) (i : ℕ) → i < length fixed → FixesNone fixed i → FixesNone (set fixed i None) (i + 1)
none_more fixed i below none m less = by_cases order
  where
    order : (m < i) ⊎ (m ≡ i)
    order = grind arith

    by_cases : (m < i) ⊎ (m ≡ i) → fixed_at (set fixed i None) m ≡ None
    by_cases (inl before) = get_or-set_other fixed i m None None (λ e. absurd (omega (arith, before, e))) ∙ none m before
    by_cases (inr here) = ap (fixed_at (set fixed i None)) here ∙ get_or-set_same fixed i None None below

pub none_agrees : (fixed : List (Option Bool)) → FixesNone fixed (length fixed) → (s : Bits) → Agrees fixed 0 s
none_agrees fixed none s m above = by_cases order
  where
    order : (m < length fixed) ⊎ (length fixed ≤ m)
    order = grind arith

    by_cases : (m < length fixed) ⊎ (length fixed ≤ m) → AgreesAt (fixed_at fixed m) (s m)
    by_cases (inl within) = subst (λ (o : Option Bool). AgreesAt o (s m)) (sym (none m within)) tt
    by_cases (inr past) = subst (λ (o : Option Bool). AgreesAt o (s m)) (sym (get_or_past fixed m None past)) tt

-- ---- one number

module _ (old mid new : List (Option Bool)) (level w n rest : ℕ) (high : Bool) (small : level < length old) (written : mid ≡ set old level (Some high)) (others : (m : ℕ) → (m < suc level) ⊎ (suc level + w ≤ m) → fixed_at new m ≡ fixed_at mid m) where
  bit_fixed : fixed_at new level ≡ Some high
  bit_fixed = others level (inl (omega arith)) ∙ (ap (λ f. fixed_at f level) written ∙ get_or-set_same old level (Some high) None small)

  agrees_there : (s : Bits) → AgreesWithin new level (suc w) s → (s level ≡ high) × AgreesWithin new (suc level) w s
  agrees_there s agrees = (subst (λ (o : Option Bool). AgreesAt o (s level)) bit_fixed (agrees level (omega arith) (omega arith)), λ m low above. agrees m (omega (arith, low)) (omega (arith, above)))

  agrees_back : (s : Bits) → s level ≡ high → AgreesWithin new (suc level) w s → AgreesWithin new level (suc w) s
  agrees_back s here agrees m low above = by_cases order
    where
      order : (m ≡ level) ⊎ (suc level ≤ m)
      order = grind arith

      by_cases : (m ≡ level) ⊎ (suc level ≤ m) → AgreesAt (fixed_at new m) (s m)
      by_cases (inl same) = subst (λ (k : ℕ). AgreesAt (fixed_at new k) (s k)) (sym same) (subst (λ (o : Option Bool). AgreesAt o (s level)) (sym bit_fixed) here)
      by_cases (inr later) = agrees m later (omega (arith, above))

  pub kept_outside : (m : ℕ) → (m < level) ⊎ (level + suc w ≤ m) → fixed_at new m ≡ fixed_at old m
  kept_outside m out = others m after ∙ (ap (λ f. fixed_at f m) written ∙ get_or-set_other old level m (Some high) None (λ e. apart e))
    where
      after : (m < suc level) ⊎ (suc level + w ≤ m)
      after = grind arith

      apart : m ≡ level → ⊥
      apart e = grind arith

  -- where the first digit is 1
  pub fixes_high : high ≡ true → 2 ^ w ≤ n → rest ≡ n - 2 ^ w → IsFixedTo new (suc level) w rest → IsFixedTo new level (suc w) n
  fixes_high is more rest_is fixes s agrees =
      let there = agrees_there s agrees in
      number_high level w n s more (there.0 ∙ is) (subst (λ (k : ℕ). has_number (suc level) w k s ≡ true) rest_is (fixes s there.1))

  pub fixes_low : high ≡ false → n < 2 ^ w → rest ≡ n → IsFixedTo new (suc level) w rest → IsFixedTo new level (suc w) n
  fixes_low is less rest_is fixes s agrees =
      let there = agrees_there s agrees in
      number_low level w n s less (there.0 ∙ is) (subst (λ (k : ℕ). has_number (suc level) w k s ≡ true) rest_is (fixes s there.1))

  pub allows_high : high ≡ true → 2 ^ w ≤ n → rest ≡ n - 2 ^ w → ((s : Bits) → has_number (suc level) w rest s ≡ true → AgreesWithin new (suc level) w s) → (s : Bits) → has_number level (suc w) n s ≡ true → AgreesWithin new level (suc w) s
  allows_high is more rest_is allows s has =
      let on : nat_le (2 ^ w) n ≡ true = grind (arith, nat_tests) in
      let parts = and_parts (s level) (has_number (suc level) w (n - 2 ^ w) s) (rw on at has) in
      agrees_back s (parts.0 ∙ sym is) (allows s (subst (λ (k : ℕ). has_number (suc level) w k s ≡ true) (sym rest_is) parts.1))

  pub allows_low : high ≡ false → n < 2 ^ w → rest ≡ n → ((s : Bits) → has_number (suc level) w rest s ≡ true → AgreesWithin new (suc level) w s) → (s : Bits) → has_number level (suc w) n s ≡ true → AgreesWithin new level (suc w) s
  allows_low is less rest_is allows s has =
      let off : nat_le (2 ^ w) n ≡ false = grind (arith, nat_tests) in
      let parts = and_parts (not (s level)) (has_number (suc level) w n s) (rw off at has) in
      agrees_back s (turned (s level) parts.0 ∙ sym is) (allows s (subst (λ (k : ℕ). has_number (suc level) w k s ≡ true) (sym rest_is) parts.1))
    where
      turned : (x : Bool) → not x ≡ true → x ≡ false
      turned true e = absurd (false≢true e)
      turned false e = refl

-- ---- slot by slot

module _ (ds : List DomainData) (at : At) where
  -- outside the slot numbered k what is fixed stays
  abbrev pub KeepsOutside : ℕ → List (Option Bool) → List (Option Bool) → Type 0
  KeepsOutside k old new = (m : ℕ) → IsOutside ds at k m → fixed_at new m ≡ fixed_at old m

  -- outside all slots it stays
  abbrev pub KeepsOthers : List (Option Bool) → List (Option Bool) → Type 0
  KeepsOthers old new = (m : ℕ) → ((j : ℕ) → j < length ds → IsOutside ds at j m) → fixed_at new m ≡ fixed_at old m

  -- the bits of so many of the values are fixed
  abbrev pub FixesSome : ℕ → List Value → ℕ → List (Option Bool) → Type 0
  FixesSome from values count fixed = (j : ℕ) → j < count → (s : Bits) → AgreesWithin fixed (level_at ds at (from + j)) (width_at ds (from + j)) s → has_value_at ds at (from + j) (value_in values j) s ≡ true

  same_within : (old new : List (Option Bool)) (level w : ℕ) (s : Bits) → ((m : ℕ) → level ≤ m → m < level + w → fixed_at new m ≡ fixed_at old m) → AgreesWithin new level w s → AgreesWithin old level w s
  same_within old new level w s same agrees m low above = subst (λ (o : Option Bool). AgreesAt o (s m)) (same m low above) (agrees m low above)

  pub fixes_more : (from : ℕ) (values : List Value) (k : ℕ) (old new : List (Option Bool)) → from + k < length ds → FixesSome from values k old → ((s : Bits) → AgreesWithin new (level_at ds at (from + k)) (width_at ds (from + k)) s → has_value_at ds at (from + k) (value_in values k) s ≡ true) → KeepsOutside (from + k) old new → FixesSome from values (k + 1) new
  fixes_more from values k old new known so_far here keeps j less = by_cases order
    where
      order : (j < k) ⊎ (j ≡ k)
      order = grind arith

      by_cases : (j < k) ⊎ (j ≡ k) → (s : Bits) → AgreesWithin new (level_at ds at (from + j)) (width_at ds (from + j)) s → has_value_at ds at (from + j) (value_in values j) s ≡ true
      by_cases (inl before) s agrees =
          let apart = earlier_before ds at (from + j) (from + k) (omega (arith, before)) known in
          so_far j before s (same_within old new (level_at ds at (from + j)) (width_at ds (from + j)) s (λ m low above. keeps m (inl (omega (arith, apart, above)))) agrees)
      by_cases (inr same) s agrees = rw same (here s (rw same at agrees))

  pub keeps_more : (k : ℕ) (first old new : List (Option Bool)) → k < length ds → KeepsOthers first old → KeepsOutside k old new → KeepsOthers first new
  keeps_more k first old new known others keeps m outside = keeps m (outside k known) ∙ others m outside

  -- bits that agreed and have the value agree
  pub allows_more : (k : ℕ) (v : Value) (old new : List (Option Bool)) (s : Bits) → KeepsOutside k old new → (has_value_at ds at k v s ≡ true → AgreesWithin new (level_at ds at k) (width_at ds k) s) → Agrees old 0 s → has_value_at ds at k v s ≡ true → Agrees new 0 s
  allows_more k v old new s keeps allows agrees has m above = by_cases order
    where
      order : IsOutside ds at k m ⊎ ((level_at ds at k ≤ m) × (m < level_at ds at k + width_at ds k))
      order = at_level (grind arith) (grind arith)
        where
          at_level : (m < level_at ds at k) ⊎ (level_at ds at k ≤ m) → (m < level_at ds at k + width_at ds k) ⊎ (level_at ds at k + width_at ds k ≤ m) → IsOutside ds at k m ⊎ ((level_at ds at k ≤ m) × (m < level_at ds at k + width_at ds k))
          at_level (inl before) more = inl (inl before)
          at_level (inr low) (inl within) = inr (low, within)
          at_level (inr low) (inr past) = inl (inr past)

      by_cases : IsOutside ds at k m ⊎ ((level_at ds at k ≤ m) × (m < level_at ds at k + width_at ds k)) → AgreesAt (fixed_at new m) (s m)
      by_cases (inl out) = subst (λ (o : Option Bool). AgreesAt o (s m)) (sym (keeps m out)) (agrees m above)
      by_cases (inr within) = allows has m within.0 within.1

  -- the other bits that were fixed stay fixed
  pub others_fixed : (other : At) (vs : List Value) (old new : List (Option Bool)) → (other ≡ at → ⊥) → length vs ≤ length ds → KeepsOthers old new → AreFixed ds other 0 vs old → AreFixed ds other 0 vs new
  others_fixed other vs old new differ small others fixes k below s agrees =
      let zero_is : 0 + k ≡ k = omega arith in
      fixes k below s (same_within old new (level_at ds other (0 + k)) (width_at ds (0 + k)) s (λ m low above. others m (λ j known. others_outside ds at other (0 + k) j m differ (omega (arith, below, small)) known low above)) agrees)
