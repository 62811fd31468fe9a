-- Bits and levels lead to one another, past their number too.
use Rattle.std.proofs.Common.{◌≡◌, ◌<◌, ◌≤◌, ◌⊎◌, inl, inr, ◌+◌, ◌++◌, ℕ, zero, suc, List, [], ◌∷◌, length, slice_index_or, refl, sym, ◌∙◌, ap, subst, arith}
use Rattle.std.specs.List.{range_with_len}
use Rattle.std.proofs.lemmas.Bool.{cases_lt}
use Rattle.std.proofs.lemmas.List.FromFn.{get_or-range_with_len, length-range_with_len}
use Rattle.std.proofs.lemmas.List.{get_or_past, get_or_default}
use Rattle.bdd_bits.specs.Orders.{BitOrder, IsOrder, LeadsBack, at, level_of, bit_of}

-- past the end of the list each number is its own
pub at-past : (list : List ℕ) (k : ℕ) → length list ≤ k → at list k ≡ k
at-past list k past = get_or_past list k k past

both_back : (to back : List ℕ) → length back ≡ length to → LeadsBack to back → (k : ℕ) → (k < length to) ⊎ (length to ≤ k) → at back (at to k) ≡ k
both_back to back same leads k (inl below) = (leads k below).1
both_back to back same leads k (inr past) = ap (at back) (at-past to k past) ∙ at-past back k (omega (arith, same, past))

-- the bit at a bit's level is the bit, and the level of a level's bit is the level
pub bit_back : (levels : ℕ) (o : BitOrder) → IsOrder levels o → (bit : ℕ) → bit_of o (level_of o bit) ≡ bit
bit_back levels o is bit = both_back o.places o.names (is.names_each ∙ sym is.places_each) is.bits_back bit (cases_lt bit (length o.places))

pub level_back : (levels : ℕ) (o : BitOrder) → IsOrder levels o → (level : ℕ) → level_of o (bit_of o level) ≡ level
level_back levels o is level = both_back o.names o.places (is.places_each ∙ sym is.names_each) is.levels_back level (cases_lt level (length o.names))

-- a bit that there is stands at a level that there is
pub level_below : (levels : ℕ) (o : BitOrder) → IsOrder levels o → (bit : ℕ) → bit < levels → level_of o bit < levels
level_below levels o is bit below =
    let leads = (is.bits_back bit (omega (arith, below, is.places_each))).0 in omega (arith, leads, is.places_each)

pub bit_below : (levels : ℕ) (o : BitOrder) → IsOrder levels o → (level : ℕ) → level < levels → bit_of o level < levels
bit_below levels o is level below =
    let leads = (is.levels_back level (omega (arith, below, is.names_each))).0 in omega (arith, leads, is.names_each)

-- one more number leads back
pub one_more : (to back : List ℕ) (k : ℕ) → k < length to → length back ≡ length to → slice_index_or to k 0 < length back → slice_index_or back (slice_index_or to k 0) 0 ≡ k →
    ((j : ℕ) → j < k → (at to j < length to) × (at back (at to j) ≡ j)) → (j : ℕ) → j < k + 1 → (at to j < length to) × (at back (at to j) ≡ j)
one_more to back k below same inside leads before j under = by_cases (cases_lt j k)
  where
    here : at to k ≡ slice_index_or to k 0
    here = get_or_default to k k 0 below

    there : at back (at to k) ≡ k
    there = ap (at back) here ∙ (get_or_default back (slice_index_or to k 0) (slice_index_or to k 0) 0 inside ∙ leads)

    by_cases : (j < k) ⊎ (k ≤ j) → (at to j < length to) × (at back (at to j) ≡ j)
    by_cases (inl less) = before j less
    by_cases (inr not_less) =
        let is : j ≡ k = omega (arith, not_less, under) in
        subst (λ (n : ℕ). (at to n < length to) × (at back (at to n) ≡ n)) (sym is) (omega (arith, here, inside, same), there)

-- the numbers below one more
pub range_more : (a n j : ℕ) → a + n ≡ j → range_with_len a (suc n) ≡ range_with_len a n ++ j ∷ []
range_more a zero j is = ap (λ (k : ℕ). k ∷ []) (let same : a ≡ j = omega arith in same)
range_more a (suc n) j is = ap (λ (xs : List ℕ). a ∷ xs) (range_more (a + 1) n j (omega arith))

-- each bit at the level of its number
pub declared_bits : (n k : ℕ) → at (range_with_len 0 n) k ≡ k
declared_bits n k = by_cases (cases_lt k n)
  where
    by_cases : (k < n) ⊎ (n ≤ k) → at (range_with_len 0 n) k ≡ k
    by_cases (inl below) = omega (arith, get_or-range_with_len 0 n k k below)
    by_cases (inr past) = at-past (range_with_len 0 n) k (omega (arith, past, length-range_with_len 0 n))

pub declared_order : (n : ℕ) → IsOrder (length (range_with_len 0 n)) (record { places = range_with_len 0 n; names = range_with_len 0 n })
declared_order n = record { places_each = refl; names_each = refl; bits_back = back; levels_back = back }
  where
    back : LeadsBack (range_with_len 0 n) (range_with_len 0 n)
    back k below = (subst (λ (j : ℕ). j < length (range_with_len 0 n)) (sym (declared_bits n k)) below, ap (at (range_with_len 0 n)) (declared_bits n k) ∙ declared_bits n k)
