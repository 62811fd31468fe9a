-- An element that is moved behind a front of a list.
use Rattle.std.proofs.Common.{◌≡◌, ℕ, zero, suc, ◌+◌, ◌<◌, List, [], ◌∷◌, ◌++◌, map, length, take, drop, get_or, sym, ◌∙◌, ap, arith}
use Rattle.std.specs.List.{insert, remove}
use Rattle.std.specs.List.Sorted.{IsPermutation}
use Rattle.std.proofs.lemmas.List.{append_assoc, map-append, take-map, drop-map, get_or-map}
use Rattle.std.proofs.lemmas.List.Sorted.{IsPermutation-trans, IsPermutation-insert, IsPermutation-remove}
use Rattle.bit_compile.proofs.Places.{get-after}
use Rattle.bdd_reorder.proofs.ElementLemmas.{got}
use Rattle.variable_order.specs.Climbing.{moved}

-- ---- behind a front

take_after : (front xs : List ℕ) (i a : ℕ) → i ≡ length front + a → take i (front ++ xs) ≡ front ++ take a xs
take_after [] xs i a is = let same : i ≡ a = omega (arith, is) in ap (λ (k : ℕ). take k xs) same
take_after (x ∷ front) xs zero a is = absurd (omega (arith, is))
take_after (x ∷ front) xs (suc i) a is = ap (λ (ys : List ℕ). x ∷ ys) (take_after front xs i a (omega (arith, is)))

drop_after : (front xs : List ℕ) (i a : ℕ) → i ≡ length front + a → drop i (front ++ xs) ≡ drop a xs
drop_after [] xs i a is = let same : i ≡ a = omega (arith, is) in ap (λ (k : ℕ). drop k xs) same
drop_after (x ∷ front) xs zero a is = absurd (omega (arith, is))
drop_after (x ∷ front) xs (suc i) a is = drop_after front xs i a (omega (arith, is))

insert_after : (front xs : List ℕ) (i a y : ℕ) → i ≡ length front + a → insert (front ++ xs) i y ≡ front ++ insert xs a y
insert_after front xs i a y is =
    ap (λ (ys : List ℕ). ys ++ y ∷ drop i (front ++ xs)) (take_after front xs i a is)
    ∙ (ap (λ (ys : List ℕ). (front ++ take a xs) ++ y ∷ ys) (drop_after front xs i a is) ∙ append_assoc front (take a xs) (y ∷ drop a xs))

remove_after : (front xs : List ℕ) (i a : ℕ) → i ≡ length front + a → remove (front ++ xs) i ≡ front ++ remove xs a
remove_after front xs i a is =
    let next : suc i ≡ length front + suc a = omega (arith, is) in
    ap (λ (ys : List ℕ). ys ++ drop (suc i) (front ++ xs)) (take_after front xs i a is)
    ∙ (ap (λ (ys : List ℕ). (front ++ take a xs) ++ ys) (drop_after front xs (suc i) (suc a) next) ∙ append_assoc front (take a xs) (drop (suc a) xs))

-- ---- of elements that a function gives

insert-map : (f : ℕ → ℕ) (xs : List ℕ) (i y : ℕ) → insert (map f xs) i (f y) ≡ map f (insert xs i y)
insert-map f xs i y =
    ap (λ (ys : List ℕ). ys ++ f y ∷ drop i (map f xs)) (take-map f i xs)
    ∙ (ap (λ (ys : List ℕ). map f (take i xs) ++ f y ∷ ys) (drop-map f i xs) ∙ sym (map-append f (take i xs) (y ∷ drop i xs)))

remove-map : (f : ℕ → ℕ) (xs : List ℕ) (i : ℕ) → remove (map f xs) i ≡ map f (remove xs i)
remove-map f xs i =
    ap (λ (ys : List ℕ). ys ++ drop (suc i) (map f xs)) (take-map f i xs)
    ∙ (ap (λ (ys : List ℕ). map f (take i xs) ++ ys) (drop-map f (suc i) xs) ∙ sym (map-append f (take i xs) (drop (suc i) xs)))

-- ---- moved

-- what is moved behind the front is moved there alone
pub moved-after : (f : ℕ → ℕ) (front xs : List ℕ) (i j a b : ℕ) → i ≡ length front + a → j ≡ length front + b → a < length xs → moved (front ++ map f xs) i j ≡ front ++ map f (moved xs a b)
moved-after f front xs i j a b from to within =
    let x : ℕ = get_or xs a 0 in
    let element : get_or (front ++ map f xs) i 0 ≡ f x = get-after front (map f xs) i a 0 from ∙ get_or-map f xs a 0 0 within in
    let rest : remove (front ++ map f xs) i ≡ front ++ map f (remove xs a) = remove_after front (map f xs) i a from ∙ ap (λ (ys : List ℕ). front ++ ys) (remove-map f xs a) in
    ap (λ (y : ℕ). insert (remove (front ++ map f xs) i) j y) element
    ∙ (ap (λ (ys : List ℕ). insert ys j (f x)) rest
    ∙ (insert_after front (map f (remove xs a)) j b (f x) to ∙ ap (λ (ys : List ℕ). front ++ ys) (insert-map f (remove xs a) b x)))

-- a list with one element moved still has each, as often
pub moved_shuffled : (xs ys : List ℕ) (i j : ℕ) → i < length ys → IsPermutation xs ys → IsPermutation xs (moved ys i j)
moved_shuffled xs ys i j within is =
    let y : ℕ = get_or ys i 0 in
    IsPermutation-trans xs ys (moved ys i j) is
    (IsPermutation-trans ys (y ∷ remove ys i) (moved ys i j) (IsPermutation-remove ys i y within (got ys i 0 y within)) (IsPermutation-insert (remove ys i) j y))
