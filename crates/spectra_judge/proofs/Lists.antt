-- What is left of a list in a loop over it.
use Rattle.std.proofs.Common.{◌≡◌, ℕ, zero, suc, ◌+◌, ◌<◌, List, [], ◌∷◌, length, map, drop, get_or, refl, sym, ap, ◌∙◌, add-one, arith}
use Rattle.std.proofs.Math.Seq.{drop-cons}

-- the first that is left
pub first_left : {X : Type 0} (xs : List X) (k : ℕ) (d : X) → get_or (drop k xs) 0 d ≡ get_or xs k d
first_left [] zero d = refl
first_left [] (suc k) d = refl
first_left (x ∷ xs) zero d = refl
first_left (x ∷ xs) (suc k) d = first_left xs k d

drop-one : {X : Type 0} (xs : List X) (k : ℕ) → drop 1 (drop k xs) ≡ drop (suc k) xs
drop-one [] zero = refl
drop-one [] (suc k) = refl
drop-one (x ∷ xs) zero = refl
drop-one (x ∷ xs) (suc k) = drop-one xs k

-- all behind it
pub drop_one : {X : Type 0} (xs : List X) (k : ℕ) → drop 1 (drop k xs) ≡ drop (k + 1) xs
drop_one xs k = drop-one xs k ∙ rw add-one refl

-- what is left is the first one and all behind it
pub mapped_left : {X Y : Type 0} (f : X → Y) (xs : List X) (k : ℕ) (x : X) → k < length xs → x ≡ get_or xs k x → map f (drop k xs) ≡ f x ∷ map f (drop (k + 1) xs)
mapped_left f xs k x below is =
    ap (map f) (drop-cons xs k x below)
    ∙ ap (λ y. f y ∷ map f (drop (suc k) xs)) (sym is)
    ∙ rw add-one refl

-- one that is there, whatever stands past the end
pub get_or_any : {X : Type 0} (xs : List X) (k : ℕ) (d e : X) → k < length xs → get_or xs k d ≡ get_or xs k e
get_or_any [] k d e below = absurd (omega arith)
get_or_any (x ∷ xs) zero d e below = refl
get_or_any (x ∷ xs) (suc k) d e below = get_or_any xs k d e (omega arith)
