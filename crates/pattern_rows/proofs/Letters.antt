-- The values of the parameters at each letter, by the letters' numbers.
use Rattle.std.proofs.Common.{◌≡◌, ℕ, zero, suc, ◌+◌, ◌*◌, ◌^◌, ◌<◌, Bool, true, false, ◌&&◌, ◌==◌, if◌then◌else◌, List, [], ◌∷◌, ◌++◌, length, map, flat_map, replicate, Some, slice_get, get_or, refl, sym, ap, ◌∙◌, subst, arith}
use Rattle.std.specs.List.{list_all}
use Rattle.std.proofs.lemmas.Bool.{and_parts, and_from}
use Rattle.std.proofs.lemmas.List.Folds.{list_all-append}
use Rattle.std.proofs.Math.Nat.{pow-suc}
use borrow.Author.Tests.{eqb-true, eq-eqb}
use Rattle.spec_model.specs.declared.value.Value.TheVariants as value
use Rattle.spec_model.specs.Values.{Assignment, TruthValues, assignments_of}
use Rattle.spec_model.specs.Games.{letter_of}
use Rattle.game_states.proofs.ChoicePlaces.{get-grid, length-grid}
use Rattle.pattern_rows.specs.Rows.{letters}
use Rattle.pattern_rows.specs.Blocks.{is_truth_value, is_letter}

abbrev with_both : Assignment → List Assignment
with_both l = (value.Bool false ∷ l) ∷ (value.Bool true ∷ l) ∷ []

pub length-letters : (n : ℕ) → length (letters n) ≡ 2 ^ n
length-letters zero = refl
length-letters (suc n) = length-grid with_both 2 (λ l. refl) (letters n) ∙ (ap (λ m. m * 2) (length-letters n) ∙ sym (pow-suc 2 n ∙ omega arith))

-- the letter of no truths is the first
pub first_letter : (n : ℕ) → (rest : List Assignment) × (letters n ≡ replicate n (value.Bool false) ∷ rest)
first_letter zero = ([], refl)
first_letter (suc n) = let before = first_letter n in ((value.Bool true ∷ replicate n (value.Bool false)) ∷ flat_map with_both before.0, ap (λ ls. flat_map with_both ls) before.1)

all_longer : (n : ℕ) (ls : List Assignment) → list_all (λ l. length l == n) ls ≡ true → list_all (λ l. length l == suc n) (flat_map with_both ls) ≡ true
all_longer n [] is = refl
all_longer n (l ∷ ls) is =
    let parts = and_parts (length l == n) (list_all (λ l. length l == n) ls) is in
    let long : suc (length l) ≡ suc n = ap suc (eqb-true (length l) n parts.0) in
    and_from _ _ (eq-eqb (suc (length l)) (suc n) long) (and_from _ _ (eq-eqb (suc (length l)) (suc n) long) (all_longer n ls parts.1))

pub letters_long : (n : ℕ) → list_all (λ l. length l == n) (letters n) ≡ true
letters_long zero = refl
letters_long (suc n) = all_longer n (letters n) (letters_long n)

all_letters_longer : (n : ℕ) (ls : List Assignment) → list_all (is_letter n) ls ≡ true → list_all (is_letter (suc n)) (flat_map with_both ls) ≡ true
all_letters_longer n [] is = refl
all_letters_longer n (l ∷ ls) is =
    let parts = and_parts (is_letter n l) (list_all (is_letter n) ls) is in
    let one = and_parts (length l == n) (list_all is_truth_value l) parts.0 in
    let long : suc (length l) ≡ suc n = ap suc (eqb-true (length l) n one.0) in
    let longer = and_from _ _ (eq-eqb (suc (length l)) (suc n) long) one.1 in
    and_from _ _ longer (and_from _ _ longer (all_letters_longer n ls parts.1))

pub letters_are : (n : ℕ) → list_all (is_letter n) (letters n) ≡ true
letters_are zero = refl
letters_are (suc n) = all_letters_longer n (letters n) (letters_are n)

-- ---- the same as all assignments

list_all-map : {X Y : Type 0} (p : Y → Bool) (f : X → Y) (xs : List X) → list_all p (map f xs) ≡ list_all (λ x. p (f x)) xs
list_all-map p f [] = refl
list_all-map p f (x ∷ xs) = ap (λ b. p (f x) && b) (list_all-map p f xs)

and_true : (b : Bool) → (b && true) ≡ b
and_true true = refl
and_true false = refl

swapped : (a b c d : Bool) → ((a && (b && true)) && (c && d)) ≡ ((a && c) && (b && d))
swapped true true c d = refl
swapped true false true d = refl
swapped true false false d = refl
swapped false b c d = refl

both_all : (p : Assignment → Bool) (ls : List Assignment) → list_all p (flat_map with_both ls) ≡ (list_all (λ l. p (value.Bool false ∷ l)) ls && list_all (λ l. p (value.Bool true ∷ l)) ls)
both_all p [] = refl
both_all p (l ∷ ls) =
    list_all-append p (with_both l) (flat_map with_both ls)
    ∙ (ap (λ b. (p (value.Bool false ∷ l) && (p (value.Bool true ∷ l) && true)) && b) (both_all p ls)
    ∙ swapped (p (value.Bool false ∷ l)) (p (value.Bool true ∷ l)) (list_all (λ l. p (value.Bool false ∷ l)) ls) (list_all (λ l. p (value.Bool true ∷ l)) ls))

pub all_letters : (n : ℕ) (p : Assignment → Bool) → list_all p (assignments_of (replicate n TruthValues)) ≡ list_all p (letters n)
all_letters zero p = refl
all_letters (suc n) p =
    let tails = assignments_of (replicate n TruthValues) in
    list_all-append p (map (λ l. value.Bool false ∷ l) tails) (map (λ l. value.Bool true ∷ l) tails ++ [])
    ∙ (ap (λ b. list_all p (map (λ l. value.Bool false ∷ l) tails) && b) (list_all-append p (map (λ l. value.Bool true ∷ l) tails) [] ∙ and_true _)
    ∙ ((λ i. list_all-map p (λ l. value.Bool false ∷ l) tails i && list_all-map p (λ l. value.Bool true ∷ l) tails i)
    ∙ ((λ i. all_letters n (λ l. p (value.Bool false ∷ l)) i && all_letters n (λ l. p (value.Bool true ∷ l)) i) ∙ sym (both_all p (letters n)))))

-- ---- the letter of a number

same_number : (b : Bool) (n : ℕ) → n * 2 + (if b then 1 else 0) ≡ (if b then 1 else 0) + 2 * n
same_number true n = omega arith
same_number false n = omega arith

pub letter_at : (n : ℕ) (bits : List Bool) → length bits ≡ n → slice_get (letters n) (letter_of bits) ≡ Some (map (λ b. value.Bool b) bits)
letter_at zero [] long = refl
letter_at zero (b ∷ bits) long = absurd (omega arith)
letter_at (suc n) [] long = absurd (omega arith)
letter_at (suc n) (b ∷ bits) long =
    subst (λ k. slice_get (letters (suc n)) k ≡ Some (map (λ b. value.Bool b) (b ∷ bits))) (same_number b (letter_of bits))
    (get-grid with_both 2 (λ l. refl) (letters n) (letter_of bits) (if b then 1 else 0) (map (λ b. value.Bool b) bits) (map (λ b. value.Bool b) (b ∷ bits)) (letter_at n bits (omega arith)) (here b (map (λ b. value.Bool b) bits)))
  where
    here : (b : Bool) (l : Assignment) → slice_get (with_both l) (if b then 1 else 0) ≡ Some (value.Bool b ∷ l)
    here true l = refl
    here false l = refl

-- ---- letters as the program has them

module _ {V : Type 0} (items : V → Assignment) where
  pub letters_there : (n : ℕ) (ls : List V) → map items ls ≡ letters n → 0 < length ls
  letters_there n [] are = let first = first_letter n in absurd (cc (are, first.1))
  letters_there n (l ∷ ls) are = omega arith

  pub first_is_none : (n : ℕ) (ls : List V) (l : V) → map items ls ≡ letters n → l ≡ get_or ls 0 l → items l ≡ replicate n (value.Bool false)
  first_is_none n [] l are is = let first = first_letter n in absurd (cc (are, first.1))
  first_is_none n (x ∷ ls) l are is = let first = first_letter n in let same : items x ≡ replicate n (value.Bool false) = cc (are, first.1) in ap items is ∙ same
