-- Values and the codes that they are read from.
use Rattle.std.proofs.Common.{◌≡◌, ℕ, zero, suc, ◌+◌, ◌-◌, ◌^◌, ◌<◌, ◌==◌, ℤ, pos, nat_abs, ◌+ℤ◌, ◌-ℤ◌, ◌≤ℤ◌, int_le, true, false, cond, List, [], ◌∷◌, length, map, get_or, set, get_or-set_same, get_or-set_other, refl, sym, ◌∙◌, ap, subst, arith, ◌⊎◌, inl, inr}
use Rattle.std.proofs.lemmas.Int.{ints}
use Rattle.std.proofs.lemmas.List.Sums.{passes_at_first}
use Rattle.spec_model.specs.declared.value.Value.{Value}
use Rattle.spec_model.specs.declared.value.Value.TheVariants as value
use Rattle.spec_model.specs.Values.{DomainData, WholeNumbers, same_value, values_of, rank_of, rising_from}
use Rattle.spec_model.specs.Diagrams.{Bits}
use Rattle.spec_model.proofs.AllStates.{same_value-true}
use Rattle.game_values.specs.declared.seen.At.{At}
use Rattle.bit_compile.specs.Codes.{has_number, level_at, width_at, domain_in}
use Rattle.bit_compile.proofs.DomainLemmas.{size-whole}
use Rattle.bit_compile.proofs.NumberLemmas.{one_number, number_high}
use Rattle.bit_compile.proofs.LawLemmas.{any_place, code_small}
use Rattle.bdd_search.specs.Parts.{value_in, ShowsValue, AreOf, HaveValues}

-- ---- digits

pub digits_high : (level w rest : ℕ) (s : Bits) → rest < 2 ^ w → has_number (suc level) w rest s ≡ true → s level ≡ true → has_number level (suc w) (2 ^ w + rest) s ≡ true
digits_high level w rest s small has here =
    let left : rest ≡ (2 ^ w + rest) - 2 ^ w = omega arith in
    number_high level w (2 ^ w + rest) s (omega arith) here (subst (λ (k : ℕ). has_number (suc level) w k s ≡ true) left has)

-- ---- values by their places

rising_at : (n i : ℕ) (z : ℤ) (d : Value) → i < n → get_or (rising_from z n) i d ≡ value.Int (z +ℤ pos i)
rising_at zero i z d h = absurd (omega arith)
rising_at (suc n) zero z d h = let same : z ≡ z +ℤ pos 0 = omega (arith, ints) in ap value.Int same
rising_at (suc n) (suc i) z d h = let same : (z +ℤ pos 1) +ℤ pos i ≡ z +ℤ pos (suc i) = omega (arith, ints) in rising_at n i (z +ℤ pos 1) d (omega arith) ∙ ap value.Int same

pub whole_at : (lo hi : ℤ) (i : ℕ) → lo ≤ℤ hi → i < length (values_of (WholeNumbers lo hi)) → get_or (values_of (WholeNumbers lo hi)) i (value.Bool false) ≡ value.Int (lo +ℤ pos i)
whole_at lo hi i rises below =
    let on : int_le lo hi ≡ true = grind (arith, ints) in
    let size = size-whole lo hi rises in
    ap (λ b. get_or (cond b (rising_from lo (nat_abs (hi -ℤ lo) + 1)) []) i (value.Bool false)) on ∙ rising_at (nat_abs (hi -ℤ lo) + 1) i lo (value.Bool false) (omega (arith, size, below))

pub whole_within : (lo hi : ℤ) (i : ℕ) → lo ≤ℤ hi → i < length (values_of (WholeNumbers lo hi)) → (lo +ℤ pos i) ≤ℤ hi
whole_within lo hi i rises below = let size = size-whole lo hi rises in let less : i < nat_abs (hi -ℤ lo) + 1 = omega (arith, size, below) in grind (arith, ints, less)

pub truth_at : (n : ℕ) → n < 2 → get_or (value.Bool false ∷ value.Bool true ∷ []) n (value.Bool false) ≡ value.Bool (n == 1)
truth_at zero below = refl
truth_at (suc zero) below = refl
truth_at (suc (suc n)) below = absurd (omega arith)

pub name_at : (names : List ℕ) (i : ℕ) → i < length names → get_or (map (λ n. value.Name n) names) i (value.Bool false) ≡ value.Name (get_or names i 0)
name_at [] i below = absurd (omega arith)
name_at (n ∷ names) zero below = refl
name_at (n ∷ names) (suc i) below = name_at names i (omega arith)

-- ---- the value whose code was read

module _ (ds : List DomainData) (at : At) (k : ℕ) (v : Value) (s : Bits) (n : ℕ) (shows : ShowsValue ds at k v s) (small : n < 2 ^ width_at ds k) (has : has_number (level_at ds at k) (width_at ds k) n s ≡ true) where
  code_is : n ≡ rank_of (domain_in ds k) v
  code_is = one_number (level_at ds at k) (width_at ds k) n (rank_of (domain_in ds k) v) s small (code_small (domain_in ds k) v shows.among) has shows.bits

  pub code_below : n < length (values_of (domain_in ds k))
  code_below = let there = any_place (same_value v) (values_of (domain_in ds k)) shows.among in let is = code_is in omega (arith, there, is)

  pub value_is : get_or (values_of (domain_in ds k)) n (value.Bool false) ≡ v
  value_is =
      let first = same_value-true v _ (passes_at_first (same_value v) (values_of (domain_in ds k)) (value.Bool false) (any_place (same_value v) (values_of (domain_in ds k)) shows.among)) in
      ap (λ i. get_or (values_of (domain_in ds k)) i (value.Bool false)) code_is ∙ sym first

-- ---- value by value

pub shows_one : (ds : List DomainData) (at : At) (from : ℕ) (vs : List Value) (s : Bits) → AreOf ds from vs → HaveValues ds at from vs s → (k : ℕ) → k < length vs → ShowsValue ds at (from + k) (value_in vs k) s
shows_one ds at from vs s are have k below = record { among = are k below; bits = have k below }

pub values_more : (ws vs : List Value) (k : ℕ) (v : Value) → k < length ws → v ≡ value_in vs k → ((j : ℕ) → j < k → value_in ws j ≡ value_in vs j) → (j : ℕ) → j < k + 1 → value_in (set ws k v) j ≡ value_in vs j
values_more ws vs k v known is so_far j less = by_cases order
  where
    order : (j < k) ⊎ (j ≡ k)
    order = grind arith

    by_cases : (j < k) ⊎ (j ≡ k) → value_in (set ws k v) j ≡ value_in vs j
    by_cases (inl before) = get_or-set_other ws k j v (value.Bool false) (λ e. absurd (omega (arith, before, e))) ∙ so_far j before
    by_cases (inr here) = ap (value_in (set ws k v)) here ∙ (get_or-set_same ws k v (value.Bool false) known ∙ (is ∙ ap (value_in vs) (sym here)))

-- lists with the same values are one
pub same_values : (vs ws : List Value) → length vs ≡ length ws → ((k : ℕ) → k < length vs → value_in vs k ≡ value_in ws k) → vs ≡ ws
same_values [] [] long same = refl
same_values [] (w ∷ ws) long same = absurd (omega (arith, long))
same_values (v ∷ vs) [] long same = absurd (omega (arith, long))
same_values (v ∷ vs) (w ∷ ws) long same =
    let first = same 0 (omega arith) in
    let rest = same_values vs ws (omega (arith, long)) (λ k h. same (suc k) (omega arith)) in
    cc
