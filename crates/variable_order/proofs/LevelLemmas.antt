-- Levels of slots under an order.
use Rattle.std.proofs.Common.{◌≡◌, ◌⊎◌, inl, inr, ℕ, zero, suc, ◌+◌, ◌==◌, ◌<◌, ◌≤◌, true, false, cond, List, [], ◌∷◌, ◌++◌, length, drop, get_or, refl, sym, ◌∙◌, ap, arith}
use Rattle.std.specs.List.{All, Contains, range_with_len}
use Rattle.std.proofs.lemmas.Bool.Decides.{eqb_tells}
use Rattle.std.proofs.lemmas.List.{length-append}
use Rattle.std.proofs.lemmas.List.Sums.{sum_by-append, sum_by-cons}
use Rattle.std.proofs.lemmas.List.FromFn.{length-range_with_len, get_or-range_with_len}
use Rattle.std.proofs.lemmas.List.Elements.{All-from_get_or, All-append}
use Rattle.std.proofs.lemmas.List.Sorted.{All-permutation, Contains-permutation, sum_by-IsPermutation}
use Rattle.bdd_reorder.proofs.ElementLemmas.{first_or_later, none_in}
use Rattle.variable_order.specs.Levels.{width_at, total, start_in, levels_upto, levels_under, slots_of, IsOrder}

-- what is left from a place on begins with the element there
pub drop_next : {X : Type 0} (xs : List X) (i : ℕ) (x : X) → i < length xs → x ≡ get_or xs i x → drop i xs ≡ x ∷ drop (i + 1) xs
drop_next [] i x h e = absurd (omega arith)
drop_next (y ∷ xs) zero x h e = ap (λ z. z ∷ xs) (sym e)
drop_next (y ∷ xs) (suc i) x h e = let next : suc i + 1 ≡ suc (i + 1) = omega arith in rw next (drop_next xs i x (omega arith) e)

pub drop_all : {X : Type 0} (xs : List X) (i : ℕ) → length xs ≤ i → drop i xs ≡ []
drop_all [] zero h = refl
drop_all [] (suc i) h = refl
drop_all (x ∷ xs) zero h = absurd (omega arith)
drop_all (x ∷ xs) (suc i) h = drop_all xs i (omega arith)

pub range_more : (a n : ℕ) → range_with_len a (suc n) ≡ range_with_len a n ++ (a + n) ∷ []
range_more a zero = let same : a + 0 ≡ a = omega arith in ap (λ b. b ∷ []) (sym same)
range_more a (suc n) = let same : a + 1 + n ≡ a + suc n = omega arith in ap (λ xs. a ∷ xs) (range_more (a + 1) n ∙ ap (λ b. range_with_len (a + 1) n ++ b ∷ []) same)

-- the slots of an order are slots
pub known_slots : (widths order : List ℕ) → IsOrder widths order → All (λ slot. slot < length widths) order
known_slots widths order is =
    All-permutation (λ slot. slot < length widths) (slots_of widths) order is
    (All-from_get_or (λ slot. slot < length widths) (slots_of widths) 0 (λ i below. (let len = length-range_with_len 0 (length widths) in let here = get_or-range_with_len 0 (length widths) i 0 (omega (arith, below, len)) in omega (arith, below, len, here))))

-- each slot is in the order
pub slot_in : (widths order : List ℕ) (slot : ℕ) → IsOrder widths order → slot < length widths → Contains order slot
slot_in widths order slot is below =
    Contains-permutation (slots_of widths) order slot is
    (slot, (let len = length-range_with_len 0 (length widths) in omega (arith, below, len)), (let here = get_or-range_with_len 0 (length widths) slot slot below in omega (arith, here)))

-- all orders have as many levels
pub same_total : (widths order : List ℕ) → IsOrder widths order → total widths order ≡ total widths (slots_of widths)
same_total widths order is = sum_by-IsPermutation (width_at widths) (slots_of widths) order is

total-cons : (widths : List ℕ) (slot : ℕ) (slots : List ℕ) → total widths (slot ∷ slots) ≡ width_at widths slot + total widths slots
total-cons widths slot slots = sum_by-cons (width_at widths) slot slots

start_by : (widths order : List ℕ) (before slot : ℕ) → (before ≡ slot) ⊎ Contains order slot → start_in widths order slot + width_at widths slot ≤ total widths order ⊎ (before ≡ slot) →
    ((before == slot) ≡ true) × (before ≡ slot) ⊎ ((before == slot) ≡ false) × (before ≡ slot → ⊥) → start_in widths (before ∷ order) slot + width_at widths slot ≤ total widths (before ∷ order)
start_by widths order before slot there rest (inl same) =
    let here : start_in widths (before ∷ order) slot ≡ 0 = ap (λ b. cond b 0 (width_at widths before + start_in widths order slot)) same.0 in
    let width : width_at widths slot ≡ width_at widths before = ap (width_at widths) (sym same.1) in
    let all = total-cons widths before order in
    omega (arith, here, width, all)
start_by widths order before slot there (inl rest) (inr other) =
    let here : start_in widths (before ∷ order) slot ≡ width_at widths before + start_in widths order slot = ap (λ b. cond b 0 (width_at widths before + start_in widths order slot)) other.0 in
    let all = total-cons widths before order in
    omega (arith, here, rest, all)
start_by widths order before slot there (inr is) (inr other) = absurd (other.1 is)

-- a slot of the order ends within its levels
pub start_within : (widths order : List ℕ) (slot : ℕ) → Contains order slot → start_in widths order slot + width_at widths slot ≤ total widths order
start_within widths [] slot there = none_in slot there
start_within widths (before ∷ order) slot there = elim (first_or_later before slot order there) [
  | inl is ↦ start_by widths order before slot (inl is) (inr is) (eqb_tells before slot)
  | inr later ↦ start_by widths order before slot (inr later) (inl (start_within widths order slot later)) (eqb_tells before slot)
]

-- ---- all levels

length_upto : (widths order : List ℕ) (slot : ℕ) → length (levels_upto widths order slot) ≡ total widths (range_with_len 0 slot)
length_upto widths order zero = refl
length_upto widths order (suc slot) =
    let front = length_upto widths order slot in
    let both = length-append (levels_upto widths order slot) (range_with_len (start_in widths order slot) (width_at widths slot)) in
    let last = length-range_with_len (start_in widths order slot) (width_at widths slot) in
    let range = ap (total widths) (range_more 0 slot) in
    let sums = sum_by-append (width_at widths) (range_with_len 0 slot) ((0 + slot) ∷ []) in
    let one = total-cons widths (0 + slot) [] in
    let zero_more : 0 + slot ≡ slot = omega arith in
    let same : width_at widths (0 + slot) ≡ width_at widths slot = ap (width_at widths) zero_more in
    omega (arith, front, both, last, range, sums, one, same)

below_range : (a n b : ℕ) → a + n ≤ b → All (λ level. level < b) (range_with_len a n)
below_range a n b within = All-from_get_or (λ level. level < b) (range_with_len a n) 0 (λ i below. (let len = length-range_with_len a n in let here = get_or-range_with_len a n i 0 (omega (arith, below, len)) in omega (arith, below, len, here, within)))

below_upto : (widths order : List ℕ) (slot : ℕ) → IsOrder widths order → slot ≤ length widths → All (λ level. level < total widths order) (levels_upto widths order slot)
below_upto widths order zero is within = below_range 0 0 (total widths order) (omega arith)
below_upto widths order (suc slot) is within =
    All-append (λ level. level < total widths order) (levels_upto widths order slot) (range_with_len (start_in widths order slot) (width_at widths slot)) (below_upto widths order slot is (omega (arith, within)))
    (below_range (start_in widths order slot) (width_at widths slot) (total widths order) (start_within widths order slot (slot_in widths order slot is (omega (arith, within)))))

pub length_under : (widths order : List ℕ) → length (levels_under widths order) ≡ total widths (slots_of widths)
length_under widths order = length_upto widths order (length widths)

pub below_under : (widths order : List ℕ) → IsOrder widths order → All (λ level. level < total widths order) (levels_under widths order)
below_under widths order is = below_upto widths order (length widths) is (omega arith)
