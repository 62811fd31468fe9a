-- Lists without elements: parts of a list of faults that is empty.
use Rattle.std.proofs.Common.{◌≡◌, List, [], ◌∷◌, ◌++◌, All, flat_map, refl}
use Rattle.std.proofs.lemmas.List.Elements.{All-nil, All-cons}
use Rattle.spec_model.proofs.AllStates.{Every}

pub not_empty : {X : Type 0} (x : X) (xs : List X) → x ∷ xs ≡ [] → ⊥
not_empty x xs e = cc

-- both parts of an empty list are empty
pub empty_parts : {X : Type 0} (xs ys : List X) → xs ++ ys ≡ [] → (xs ≡ []) × (ys ≡ [])
empty_parts [] ys e = (refl, e)
empty_parts (x ∷ xs) ys e = absurd (not_empty x (xs ++ ys) e)

pub all_empty : {X Y : Type 0} (f : X → List Y) (xs : List X) → flat_map f xs ≡ [] → All (λ x. f x ≡ []) xs
all_empty f [] e = All-nil (λ x. f x ≡ [])
all_empty f (x ∷ xs) e = let parts = empty_parts (f x) (flat_map f xs) e in All-cons (λ y. f y ≡ []) x xs parts.0 (all_empty f xs parts.1)

-- what holds of each of two lists together holds of each of both
pub every_parts : {X : Type 0} (P : X → Type 0) (xs ys : List X) → Every P (xs ++ ys) → Every P xs × Every P ys
every_parts P [] ys all = (tt, all)
every_parts P (x ∷ xs) ys all = let parts = every_parts P xs ys all.1 in ((all.0, parts.0), parts.1)
