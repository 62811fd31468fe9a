-- Marks of definitions: how many there are, and what setting one leaves.
use Rattle.std.proofs.Common.{◌≡◌, ℕ, zero, suc, ◌<◌, ◌≤◌, Bool, true, false, ◌==◌, List, [], ◌∷◌, length, Option, Some, None, slice_get, slice_set, replicate, refl, sym, ap, subst, ◌∙◌, inl, inr, ◌⊎◌, arith}
use Rattle.std.proofs.lemmas.Bool.{false≢true}
use Rattle.std.proofs.lemmas.Bool.Decides.{Decides-eqb}
use Rattle.spectra_uses.specs.Searching.{is_unmarked, IsOpen, IsKnown, marked, HasNoMark}

pub same_or_not : (v w : ℕ) → (v ≡ w) ⊎ (v ≡ w → ⊥)
same_or_not v w = by (v == w) refl
  where
    by : (b : Bool) → (v == w) ≡ b → (v ≡ w) ⊎ (v ≡ w → ⊥)
    by true is = inl ((Decides-eqb v w).0 is)
    by false is = inr (λ same. false≢true (sym is ∙ (Decides-eqb v w).1 same))

-- ---- what setting one leaves

pub set-here : {X : Type 0} (xs : List X) (v : ℕ) (x : X) → v < length xs → slice_get (slice_set xs v x) v ≡ Some x
set-here [] v x within = absurd (omega arith)
set-here (y ∷ xs) zero x within = refl
set-here (y ∷ xs) (suc v) x within = set-here xs v x (omega arith)

pub set-other : {X : Type 0} (xs : List X) (v w : ℕ) (x : X) → (w ≡ v → ⊥) → slice_get (slice_set xs v x) w ≡ slice_get xs w
set-other [] v w x other = refl
set-other (y ∷ xs) zero zero x other = absurd (other refl)
set-other (y ∷ xs) zero (suc w) x other = refl
set-other (y ∷ xs) (suc v) zero x other = refl
set-other (y ∷ xs) (suc v) (suc w) x other = set-other xs v w x (λ same. other (ap suc same))

pub length-one_set : {X : Type 0} (xs : List X) (v : ℕ) (x : X) → length (slice_set xs v x) ≡ length xs
length-one_set [] v x = refl
length-one_set (y ∷ xs) zero x = refl
length-one_set (y ∷ xs) (suc v) x = ap suc (length-one_set xs v x)

pub marked-most : (marks : List Bool) → marked marks ≤ length marks
marked-most [] = omega arith
marked-most (true ∷ marks) = let rest = marked-most marks in omega arith
marked-most (false ∷ marks) = let rest = marked-most marks in omega arith

pub marked-set : (marks : List Bool) (v : ℕ) → slice_get marks v ≡ Some false → marked (slice_set marks v true) ≡ suc (marked marks)
marked-set [] v at = absurd (cc)
marked-set (false ∷ marks) zero at = omega arith
marked-set (true ∷ marks) zero at = absurd (cc)
marked-set (b ∷ marks) (suc v) at = let rest = marked-set marks v at in omega arith

pub set-there : (marks : List Bool) (v : ℕ) → slice_get (slice_set marks v true) v ≡ Some false → ⊥
set-there [] v at = cc
set-there (b ∷ marks) zero at = cc
set-there (b ∷ marks) (suc v) at = set-there marks v at

pub set-known : (marks : List Bool) (v w : ℕ) → IsKnown marks w → IsKnown (slice_set marks v true) w
set-known [] v w known at = known at
set-known (b ∷ marks) zero zero known at = cc
set-known (b ∷ marks) zero (suc w) known at = known at
set-known (b ∷ marks) (suc v) zero known at = known at
set-known (b ∷ marks) (suc v) (suc w) known at = set-known marks v w known at

pub set-marked : (marks : List Bool) (v w : ℕ) → slice_get (slice_set marks v true) w ≡ Some true → (w ≡ v) ⊎ (slice_get marks w ≡ Some true)
set-marked [] v w at = inr at
set-marked (b ∷ marks) zero zero at = inl refl
set-marked (b ∷ marks) zero (suc w) at = inr at
set-marked (b ∷ marks) (suc v) zero at = inr at
set-marked (b ∷ marks) (suc v) (suc w) at = elim (set-marked marks v w at) [ inl same ↦ inl (ap suc same) | inr there ↦ inr there ]

-- one that has no mark had none, and is another one
pub set-open : (marks : List Bool) (v w : ℕ) → IsOpen (slice_set marks v true) w → (w ≡ v → ⊥) × IsOpen marks w
set-open marks v w free = elim (same_or_not w v) [
  | inl same ↦ absurd (set-there marks v (subst (IsOpen (slice_set marks v true)) same free))
  | inr other ↦ (other, sym (set-other marks v w true other) ∙ free)
]

-- ---- what is marked

pub unmarked : (o : Option Bool) → is_unmarked o ≡ true → o ≡ Some false
unmarked (Some false) new = refl
unmarked (Some true) new = absurd (false≢true new)
unmarked None new = absurd (false≢true new)

pub past-from : (marks : List Bool) (v : ℕ) → slice_get marks v ≡ None → length marks ≤ v
past-from [] v none = omega arith
past-from (b ∷ marks) zero none = absurd (cc)
past-from (b ∷ marks) (suc v) none = let rest = past-from marks v none in omega arith

pub no_mark : (n v : ℕ) → slice_get (replicate n false) v ≡ Some true → ⊥
no_mark zero v at = cc
no_mark (suc n) zero at = cc
no_mark (suc n) (suc v) at = no_mark n v at

pub length-none : (n : ℕ) → length (replicate n false) ≡ n
length-none zero = refl
length-none (suc n) = ap suc (length-none n)

pub marked-none : (marks : List Bool) → HasNoMark marks → marked marks ≡ 0
marked-none [] none = refl
marked-none (true ∷ marks) none = absurd (none 0 refl)
marked-none (false ∷ marks) none = let rest = marked-none marks (λ v. none (suc v)) in omega arith

pub all_marked : (n v : ℕ) → IsKnown (replicate n true) v
all_marked zero v at = cc
all_marked (suc n) zero at = cc
all_marked (suc n) (suc v) at = all_marked n v at

pub length-all : (n : ℕ) → length (replicate n true) ≡ n
length-all zero = refl
length-all (suc n) = ap suc (length-all n)

pub none_open : (n v : ℕ) → v < n → IsOpen (replicate n false) v
none_open zero v below = absurd (omega arith)
none_open (suc n) zero below = refl
none_open (suc n) (suc v) below = none_open n v (omega arith)
