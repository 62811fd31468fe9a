-- How long a printed line can be.
use Rattle.std.proofs.Common.{◌≡◌, ℕ, zero, suc, ◌+◌, ◌<◌, ◌≤◌, ◌^◌, ℤ, true, false, List, [], ◌∷◌, map, length, get_or, refl, ap, arith, length-append}
use Rattle.std.proofs.lemmas.Bool.{or_cases, and_parts}
use Rattle.std.proofs.lemmas.Fmt.{length_signed_le}
use Rattle.std.specs.List.{list_any, join_with_byte}
use Rattle.std.proofs.Common.{◌⊎◌, inl, inr}
use lib.Signed.{mag}
use Rattle.spec_model.specs.declared.value.Value.{Value}
use Rattle.spec_model.specs.declared.value.Value.TheVariants as value
use Rattle.spec_model.specs.Values.{values_of, same_value, is_assignment, TruthValues, WholeNumbers, Enumeration}
use Rattle.spec_model.specs.Syntax.{VariableData}
use Rattle.session_lines.specs.Shown.{text_of, item_of, items_of}
use Rattle.session_lines.specs.Room.{HasShortTexts, HasItemRoom, HasRoom, domains}
use Rattle.session_lines.proofs.Values.{only_whole, same_name}

pub truths_short : (names : List (List ℕ)) → HasShortTexts names TruthValues 5
truths_short names (value.Bool true) within = omega arith
truths_short names (value.Bool false) within = omega arith
truths_short names (value.Int z) within = cc
truths_short names (value.Name n) within = cc

pub wholes_short : (names : List (List ℕ)) (lo hi : ℤ) → mag lo < 2 ^ 63 → mag hi < 2 ^ 63 → HasShortTexts names (WholeNumbers lo hi) 20
wholes_short names lo hi lo_fits hi_fits x within =
    let w = only_whole names lo hi (text_of names x) x (2 ^ 63) lo_fits hi_fits (record { text_is = refl; within = within }) in
    let small : mag w.0 + 1 < 10 ^ 19 = omega (arith, w.1) in
    omega (arith, ap length w.2, length_signed_le 19 w.0 small w.1)

pub names_short : (names : List (List ℕ)) (ns : List ℕ) (n : ℕ) → ((k : ℕ) → k < length ns → length (get_or names (get_or ns k 0) []) ≤ n) → HasShortTexts names (Enumeration ns) n
names_short names [] n each x within = cc
names_short names (m ∷ ns) n each x within = one (names_short names ns n (λ k below. each (suc k) (omega arith)) x) (or_cases _ _ within)
  where
    one : (list_any (same_value x) (map (λ k. value.Name k) ns) ≡ true → length (text_of names x) ≤ n)
        → (same_value x (value.Name m) ≡ true) ⊎ (list_any (same_value x) (map (λ k. value.Name k) ns) ≡ true) → length (text_of names x) ≤ n
    one rest (inl same) = let is = ap (λ (y : Value). length (text_of names y)) (same_name x m same) in omega (arith, is, each zero (omega arith))
    one rest (inr later) = rest later

join_short : (item : List ℕ) (items : List (List ℕ)) → length (join_with_byte 32 (item ∷ items)) ≤ length item + (1 + length (join_with_byte 32 items))
join_short item [] = omega arith
join_short item (next ∷ items) = omega (arith, length-append item (32 ∷ join_with_byte 32 (next ∷ items)))

-- an item more
pub room_more : (names : List (List ℕ)) (v : VariableData) (vs : List VariableData) (m k : ℕ) → HasItemRoom names v m → HasRoom names vs (k + 1) → HasRoom names (v ∷ vs) ((m + k) + 1)
room_more names v vs m k item rest [] are = cc
room_more names v vs m k item rest (x ∷ xs) are =
    let parts = and_parts (list_any (same_value x) (values_of v.domain)) (is_assignment (domains vs) xs) are in
    omega (arith, item x parts.0, rest xs parts.1, join_short (item_of names v x) (items_of names vs xs))

pub room_none : (names : List (List ℕ)) → HasRoom names [] 1
room_none names [] are = omega arith
room_none names (x ∷ xs) are = cc
