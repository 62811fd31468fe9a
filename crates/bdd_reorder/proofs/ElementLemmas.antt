-- Elements of lists.
use Rattle.std.proofs.Common.{◌≡◌, ◌⊎◌, ◌<◌, inl, inr, ℕ, zero, suc, length, List, [], ◌∷◌, ◌++◌, map, take, ◌+◌, ◌≤◌, refl, sym, ap, subst, arith, get_or}
use Rattle.std.specs.List.{AllByRecursion, Contains}

pub contains_first : {X : Type 0} (x : X) (xs : List X) → Contains (x ∷ xs) x
contains_first x xs = (0, omega arith, refl)

pub contains_later : {X : Type 0} (x y : X) (xs : List X) → Contains xs y → Contains (x ∷ xs) y
contains_later x y xs there = (suc there.0, (let below = there.1 in omega (arith, below)), there.2)

-- an element is the first or a later one
pub first_or_later : {X : Type 0} (x y : X) (xs : List X) → Contains (x ∷ xs) y → (x ≡ y) ⊎ Contains xs y
first_or_later x y xs (zero, below, is) = inl is
first_or_later x y xs (suc k, below, is) = inr (k, omega (arith, below), is)

pub none_in : {X E : Type 0} (x : X) → Contains {X = X} [] x → E
none_in x there = absurd (let below = there.1 in omega (arith, below))

pub contains_map : {X Y : Type 0} (f : X → Y) (xs : List X) (x : X) → Contains xs x → Contains (map f xs) (f x)
contains_map f [] x there = absurd (let below = there.1 in omega (arith, below))
contains_map f (y ∷ xs) x there = elim (first_or_later y x xs there) [
  | inl same ↦ subst (λ z. Contains (map f (y ∷ xs)) (f z)) same (contains_first (f y) (map f xs))
  | inr later ↦ contains_later (f y) (f x) (map f xs) (contains_map f xs x later)
]

pub map_contains : {X Y : Type 0} (f : X → Y) (xs : List X) (y : Y) → Contains (map f xs) y → (x : X) × Contains xs x × (f x ≡ y)
map_contains f [] y there = absurd (let below = there.1 in omega (arith, below))
map_contains f (x ∷ xs) y there = elim (first_or_later (f x) y (map f xs) there) [
  | inl same ↦ (x, contains_first x xs, same)
  | inr later ↦ (let rest = map_contains f xs y later in (rest.0, contains_later x rest.0 xs rest.1, rest.2))
]

pub all_at : {X : Type 0} (P : X → Type 0) (xs : List X) (x : X) → AllByRecursion P xs → Contains xs x → P x
all_at P [] x all there = absurd (let below = there.1 in omega (arith, below))
all_at P (y ∷ xs) x all there = elim (first_or_later y x xs there) [
  | inl same ↦ subst P same all.0
  | inr later ↦ all_at P xs x all.1 later
]

pub all_append : {X : Type 0} (P : X → Type 0) (xs ys : List X) → AllByRecursion P xs → AllByRecursion P ys → AllByRecursion P (xs ++ ys)
all_append P [] ys first second = second
all_append P (x ∷ xs) ys first second = (first.0, all_append P xs ys first.1 second)

-- an element inside a list is the same whatever stands past its end
pub got : {X : Type 0} (xs : List X) (i : ℕ) (d d' : X) → i < length xs → get_or xs i d ≡ get_or xs i d'
got [] i d d' h = absurd (omega arith)
got (x ∷ xs) zero d d' h = refl
got (x ∷ xs) (suc i) d d' h = got xs i d d' (omega arith)

take_at : {X : Type 0} (xs : List X) (i : ℕ) (x : X) → i < length xs → x ≡ get_or xs i x → take (suc i) xs ≡ take i xs ++ x ∷ []
take_at [] i x h e = absurd (omega arith)
take_at (y ∷ xs) zero x h e = ap (λ z. z ∷ []) (sym e)
take_at (y ∷ xs) (suc i) x h e = ap (λ zs. y ∷ zs) (take_at xs i x (omega arith) e)

-- the first elements with one more
pub take_next : {X : Type 0} (xs : List X) (i : ℕ) (x : X) → i < length xs → x ≡ get_or xs i x → take (i + 1) xs ≡ take i xs ++ x ∷ []
take_next xs i x h e = let next : i + 1 ≡ suc i = omega arith in rw next (take_at xs i x h e)

-- all of them
pub take_all : {X : Type 0} (xs : List X) (i : ℕ) → length xs ≤ i → take i xs ≡ xs
take_all [] zero h = refl
take_all [] (suc i) h = refl
take_all (x ∷ xs) zero h = absurd (omega arith)
take_all (x ∷ xs) (suc i) h = ap (λ zs. x ∷ zs) (take_all xs i (omega arith))

pub contains_take : {X : Type 0} (xs : List X) (i : ℕ) (x : X) → Contains (take i xs) x → Contains xs x
contains_take [] zero x there = there
contains_take [] (suc i) x there = there
contains_take (y ∷ xs) zero x there = none_in x there
contains_take (y ∷ xs) (suc i) x there = elim (first_or_later y x (take i xs) there) [
  | inl same ↦ subst (λ z. Contains (y ∷ xs) z) same (contains_first y xs)
  | inr later ↦ contains_later y x xs (contains_take xs i x later)
]
