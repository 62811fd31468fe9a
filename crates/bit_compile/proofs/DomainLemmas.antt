-- How many values a domain has, and the places of whole numbers.
use Rattle.std.proofs.Common.{◌≡◌, ℕ, zero, suc, ◌+◌, ◌-◌, ◌<◌, ℤ, pos, ◌+ℤ◌, ◌-ℤ◌, ◌≤ℤ◌, nat_abs, int_le, Bool, true, false, not, ◌==◌, map, drop, get_or, Some, None, is_some, neg_ℤ, Result, Ok, Err, IfOk, ◌++◌, append_assoc, int_lt, nat_lt, ◌^◌, ◌&&◌, List, [], ◌∷◌, length, refl, sym, ◌∙◌, ap, subst, arith, cond}
use Rattle.std.proofs.lemmas.Int.{ints}
use Rattle.std.proofs.lemmas.Bool.Decides.{Decides-int_eq}
use Rattle.std.specs.Ordering.{int_eq}
use Rattle.std.specs.List.{position_or_len, list_any}
use Rattle.std.proofs.lemmas.List.Folds.{list_any_at}
use Rattle.std.proofs.lemmas.Bool.Decides.{nat_tests}
use Rattle.spec_model.specs.declared.value.Value.{Value}
use Rattle.spec_model.specs.declared.value.Value.TheVariants as value
use Rattle.std.proofs.lemmas.Bool.{false≢true, and_parts, and_from}
use Rattle.std.specs.List.{list_all}
use borrow.Author.Tests.{ltb-true, lt-ltb}
use Rattle.spec_model.specs.Typing.{Scope, Whole}
use Rattle.spec_model.specs.Moves.{is_env, domains_of}
use Rattle.spec_model.specs.Games.{HiddenData, GameData}
use Rattle.spec_model.specs.WellMade.{all_differ, is_domain, is_table, are_tables}
use Rattle.game_values.proofs.Lists.{map_drop}
use Rattle.bit_compile.specs.Domains.{table_domain, state_domains}
use Rattle.bit_compile.specs.Laid.{IsCountable}
use Rattle.spec_model.specs.Values.{DomainData, TruthValues, Enumeration, WholeNumbers, rising_from, same_value, rank_of}
use Rattle.spec_model.specs.Sizes.{domain_size}

pub length-rising : (z : ℤ) (n : ℕ) → length (rising_from z n) ≡ n
length-rising z zero = refl
length-rising z (suc n) = ap suc (length-rising (z +ℤ pos 1) n)

pub size-whole : (lo hi : ℤ) → lo ≤ℤ hi → domain_size (WholeNumbers lo hi) ≡ nat_abs (hi -ℤ lo) + 1
size-whole lo hi h =
    let rises : int_le lo hi ≡ true = grind (arith, ints) in
    ap (λ b. length (cond b (rising_from lo (nat_abs (hi -ℤ lo) + 1)) [])) rises ∙ length-rising lo (nat_abs (hi -ℤ lo) + 1)

place-rising : (n : ℕ) (lo z : ℤ) (i : ℕ) → i < n → z ≡ lo +ℤ pos i → position_or_len (same_value (value.Int z)) (rising_from lo n) ≡ i
place-rising zero lo z i h e = absurd (omega arith)
place-rising (suc n) lo z zero h e =
    let here : int_eq z lo ≡ true = (Decides-int_eq z lo).1 (omega (arith, ints, e)) in
    rw here refl
place-rising (suc n) lo z (suc i) h e =
    let other : int_eq z lo ≡ false = grind (arith, ints) in
    let rest = place-rising n (lo +ℤ pos 1) z i (omega arith) (omega (arith, ints, e)) in
    rw other (ap (λ k. 1 + k) rest ∙ omega arith)

-- a whole number's place is how far it is from the least one
pub place-whole : (lo hi z : ℤ) → lo ≤ℤ z → z ≤ℤ hi → rank_of (WholeNumbers lo hi) (value.Int z) ≡ nat_abs (z -ℤ lo)
place-whole lo hi z low high =
    let rises : int_le lo hi ≡ true = grind (arith, ints) in
    ap (λ b. position_or_len (same_value (value.Int z)) (cond b (rising_from lo (nat_abs (hi -ℤ lo) + 1)) [])) rises
    ∙ place-rising (nat_abs (hi -ℤ lo) + 1) lo z (nat_abs (z -ℤ lo)) (grind (arith, ints)) (grind (arith, ints))

pub place-names : (n : ℕ) (names : List ℕ) → position_or_len (same_value (value.Name n)) (map (λ m. value.Name m) names) ≡ position_or_len (λ m. n == m) names
place-names n [] = refl
place-names n (m ∷ names) = ap (λ k. cond (not (n == m)) (1 + k) 0) (place-names n names)

-- among different names one is at its place and at no other
pub place_at : (names : List ℕ) (i n : ℕ) → all_differ (λ a b. a == b) names ≡ true → i < length names → get_or names i 0 ≡ n → position_or_len (λ m. n == m) names ≡ i
place_at [] i n differ h e = absurd (omega arith)
place_at (x ∷ xs) zero n differ h e = let here : (n == x) ≡ true = grind (arith, nat_tests, e) in rw here refl
place_at (x ∷ xs) (suc i) n differ h e =
    let parts = and_parts (not (list_any (λ m. x == m) xs)) (all_differ (λ a b. a == b) xs) differ in
    let rest = place_at xs i n parts.1 (omega arith) e in
    at (n == x) refl rest parts.0
  where
    at : (b : Bool) → (n == x) ≡ b → position_or_len (λ m. n == m) xs ≡ i → not (list_any (λ m. x == m) xs) ≡ true → position_or_len (λ m. n == m) (x ∷ xs) ≡ suc i
    at false other rest none = rw other (ap (λ k. 1 + k) rest ∙ omega arith)
    at true same rest none =
        let equal : (x == get_or xs i 0) ≡ true = grind (arith, nat_tests, e, same) in
        absurd (false≢true (sym (ap not (list_any_at (λ m. x == m) xs i 0 (omega arith) equal)) ∙ none))

-- a domain that is well made has few whole numbers, none of them far out
pub domain_countable : (d : DomainData) → is_domain d ≡ true → IsCountable d
domain_countable TruthValues e = tt
domain_countable (WholeNumbers lo hi) e =
    let parts = and_parts (int_le lo hi) _ e in
    let low : lo ≤ℤ hi = grind (arith, ints) in
    let far = bounded (int_le (neg_ℤ (pos (10 ^ 12))) lo) refl (int_le hi (pos (10 ^ 12))) refl parts.1 in
    (low, far.0, far.1)
  where
    bounded : (a : Bool) → int_le (neg_ℤ (pos (10 ^ 12))) lo ≡ a → (b : Bool) → int_le hi (pos (10 ^ 12)) ≡ b → is_some (cond (a && b && int_lt (hi -ℤ lo) (pos 4096)) (Some (Whole lo hi)) None) ≡ true → ((pos 0 -ℤ pos (10 ^ 12)) ≤ℤ lo) × (hi ≤ℤ pos (10 ^ 12))
    bounded true ea true eb e = (grind (arith, ints), grind (arith, ints))
    bounded true ea false eb e = absurd (false≢true e)
    bounded false ea b eb e = absurd (false≢true e)
domain_countable (Enumeration names) e = (and_parts (nat_lt 0 (length names)) _ e).1

pub tables_filled : (sc : Scope) (hs : List HiddenData) → are_tables sc hs ≡ true → list_all (λ h. nat_lt 0 h.values) hs ≡ true
tables_filled sc [] e = refl
tables_filled sc (h ∷ hs) e =
    let parts = and_parts (is_table sc h) _ e in
    let first = ltb-true h.first h.values (and_parts (nat_lt h.first h.values) _ parts.0).0 in
    and_from _ _ (lt-ltb 0 h.values (omega (arith, first))) (tables_filled _ hs parts.1)

-- what a test says of all from a place on, it says of the one there and of all after it
pub next_of_all : {V D : Type 0} (data_of : V → D) (test : D → Bool) (xs : List V) (i : ℕ) (x : V) → i < length xs → x ≡ get_or xs i x → list_all test (map data_of (drop i xs)) ≡ true → (test (data_of x) ≡ true) × (list_all test (map data_of (drop (i + 1) xs)) ≡ true)
next_of_all data_of test xs i x h is e = and_parts (test (data_of x)) _ (subst (λ ys. list_all test ys ≡ true) (map_drop data_of xs i x h is) e)

-- tables, then inputs, then outputs are the domains of a state
pub joined_domains : {E : Type 0} (g : GameData) (empty tables inputs : List DomainData) (all : Result (List DomainData) E) → empty ≡ [] → tables ≡ empty ++ map table_domain g.hidden → inputs ≡ tables ++ domains_of is_env g.variables → IfOk all (λ codes. codes ≡ inputs ++ domains_of (λ o. not (is_env o)) g.variables) → IfOk all (λ codes. codes ≡ state_domains g)
joined_domains g empty tables inputs (Ok codes) none with_tables with_inputs is =
    is ∙ rw (with_inputs, with_tables, none) (append_assoc (map table_domain g.hidden) (domains_of is_env g.variables) (domains_of (λ o. not (is_env o)) g.variables))
joined_domains g empty tables inputs (Err e) none with_tables with_inputs is = is

-- one whole number more
pub rising_step : (row w : List Value) (z : ℤ) (i n : ℕ) → i < n → row ++ rising_from z (n - i) ≡ w → (row ++ value.Int z ∷ []) ++ rising_from (z +ℤ pos 1) (n - (i + 1)) ≡ w
rising_step row w z i n h so_far = let e : n - i ≡ suc (n - (i + 1)) = omega arith in append_assoc row (value.Int z ∷ []) (rising_from (z +ℤ pos 1) (n - (i + 1))) ∙ (rw e at so_far)
