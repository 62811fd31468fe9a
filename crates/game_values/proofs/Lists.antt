-- Places and lengths of lists.
use Rattle.std.proofs.Common.{◌≡◌, ℕ, zero, suc, ◌+◌, ◌<◌, List, [], ◌∷◌, ◌++◌, length, length-append, map, drop, Some, slice_get, get_or, refl, sym, ◌∙◌, ap, arith}
use Rattle.spec_model.specs.Steps.{below}

pub get-left : {A : Type 0} (xs ys : List A) (j : ℕ) (a : A) → slice_get xs j ≡ Some a → slice_get (xs ++ ys) j ≡ Some a
get-left [] ys j a e = cc (e)
get-left (x ∷ xs) ys zero a e = e
get-left (x ∷ xs) ys (suc j) a e = get-left xs ys j a e

pub get-right : {A : Type 0} (xs ys : List A) (j k : ℕ) → k ≡ length xs + j → slice_get (xs ++ ys) k ≡ slice_get ys j
get-right [] ys j k e = let is : k ≡ j = omega (arith, e) in ap (slice_get ys) is
get-right (x ∷ xs) ys j zero e = absurd (omega (arith, e))
get-right (x ∷ xs) ys j (suc k) e = get-right xs ys j k (omega (arith, e))

pub length-below : (n : ℕ) → length (below n) ≡ n
length-below zero = refl
length-below (suc n) = length-append (below n) (n ∷ []) ∙ (ap (λ m. m + 1) (length-below n) ∙ omega arith)

map_drop_at : {V D : Type 0} (data_of : V → D) (xs : List V) (i : ℕ) (x : V) → i < length xs → x ≡ get_or xs i x → map data_of (drop i xs) ≡ data_of x ∷ map data_of (drop (suc i) xs)
map_drop_at data_of [] i x h e = absurd (omega arith)
map_drop_at data_of (y ∷ xs) zero x h e = ap (λ z. data_of z ∷ map data_of xs) (sym e)
map_drop_at data_of (y ∷ xs) (suc i) x h e = map_drop_at data_of xs i x (omega arith) e

pub map_drop : {V D : Type 0} (data_of : V → D) (xs : List V) (i : ℕ) (x : V) → i < length xs → x ≡ get_or xs i x → map data_of (drop i xs) ≡ data_of x ∷ map data_of (drop (i + 1) xs)
map_drop data_of xs i x h e = let next : i + 1 ≡ suc i = omega arith in rw next (map_drop_at data_of xs i x h e)
