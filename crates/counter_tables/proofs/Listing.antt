-- What stands at a place of a list, seen through a function.
use Rattle.std.proofs.Common.{◌≡◌, ℕ, zero, suc, ◌+◌, ◌<◌, List, [], ◌∷◌, ◌++◌, length, map, take, get_or, slice_get, Some, sym, ◌∙◌, ap, subst, arith}
use Rattle.std.specs.List.{AllByRecursion}
use Rattle.std.proofs.lemmas.List.{take_more, map-append}

module _ {X Y : Type 0} (f : X → Y) where
  pub mapped_there : (xs : List X) (n : ℕ) (x : X) → n < length xs → x ≡ get_or xs n x → slice_get (map f xs) n ≡ Some (f x)
  mapped_there [] n x below is = absurd (omega arith)
  mapped_there (y ∷ xs) zero x below is = ap (λ (x : X). Some (f x)) (sym is)
  mapped_there (y ∷ xs) (suc n) x below is = mapped_there xs n x (omega arith) is

  pub mapped_more : (xs : List X) (n : ℕ) (x : X) → n < length xs → x ≡ get_or xs n x → map f (take (n + 1) xs) ≡ map f (take n xs) ++ f x ∷ []
  mapped_more xs n x below is = ap (map f) (take_more xs n x below ∙ ap (λ (y : X). take n xs ++ y ∷ []) (sym is)) ∙ map-append f (take n xs) (x ∷ [])

  pub all_there : (P : Y → Type 0) (xs : List X) (n : ℕ) (x : X) → n < length xs → x ≡ get_or xs n x → AllByRecursion P (map f xs) → P (f x)
  all_there P [] n x below is all = absurd (omega arith)
  all_there P (y ∷ xs) zero x below is all = subst (λ (x : X). P (f x)) (sym is) all.0
  all_there P (y ∷ xs) (suc n) x below is all = all_there P xs n x (omega arith) is all.1
