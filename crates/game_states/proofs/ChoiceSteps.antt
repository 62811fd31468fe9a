-- One step of the loops that make choices.
use Rattle.std.proofs.Common.{◌≡◌, ℕ, zero, suc, ◌+◌, ◌<◌, List, [], ◌∷◌, ◌++◌, length, map, flat_map, take, drop, get_or, refl, sym, ◌∙◌, ap, arith, append_assoc}
use Rattle.game_states.specs.Numbers.{choices}

flat_map_at : {X A : Type 0} (f : X → List A) (xs : List X) (i : ℕ) (x : X) → i < length xs → x ≡ get_or xs i x → flat_map f (take (suc i) xs) ≡ flat_map f (take i xs) ++ f x
flat_map_at f [] i x h e = absurd (omega arith)
flat_map_at f (y ∷ xs) zero x h e = append-nil (f y) ∙ ap f (sym e)
  where
    append-nil : {A : Type 0} (ys : List A) → ys ++ [] ≡ ys
    append-nil [] = refl
    append-nil (y ∷ ys) = ap (λ zs. y ∷ zs) (append-nil ys)
flat_map_at f (y ∷ xs) (suc i) x h e = ap (λ r. f y ++ r) (flat_map_at f xs i x (omega arith) e) ∙ sym (append_assoc (f y) (flat_map f (take i xs)) (f x))

pub flat_map_step : {X A : Type 0} (f : X → List A) (xs : List X) (i : ℕ) (x : X) → i < length xs → x ≡ get_or xs i x → flat_map f (take (i + 1) xs) ≡ flat_map f (take i xs) ++ f x
flat_map_step f xs i x h e = let next : i + 1 ≡ suc i = omega arith in rw next (flat_map_at f xs i x h e)

choices_at : {V X : Type 0} (items : V → List X) (xs : List V) (i : ℕ) (v : V) → i < length xs → v ≡ get_or xs i v → choices (map items (drop i xs)) ≡ flat_map (λ h. map (λ t. h ∷ t) (choices (map items (drop (suc i) xs)))) (items v)
choices_at items [] i v h e = absurd (omega arith)
choices_at items (x ∷ xs) zero v h e = ap (λ w. flat_map (λ h. map (λ t. h ∷ t) (choices (map items xs))) (items w)) (sym e)
choices_at items (x ∷ xs) (suc i) v h e = choices_at items xs i v (omega arith) e

pub choices_step : {V X : Type 0} (items : V → List X) (xs : List V) (i j : ℕ) (v : V) → i < length xs → suc i ≡ j → v ≡ get_or xs i v → choices (map items (drop i xs)) ≡ flat_map (λ h. map (λ t. h ∷ t) (choices (map items (drop j xs)))) (items v)
choices_step items xs i j v h next e = rw (← next) (choices_at items xs i v h e)
