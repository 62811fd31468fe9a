-- Definitions that one uses, and marks of definitions.
use Rattle.std.specs.Prelude.{◌≡◌, ℕ, ◌+◌, Bool, true, false, not, if◌then◌else◌, List, [], ◌∷◌, Option, Some, None, unwrap_or, slice_get}

abbrev pub next_of : List (List ℕ) → ℕ → List ℕ
next_of uses v = unwrap_or (slice_get uses v) []

-- what is at a number's place is no mark
abbrev pub is_unmarked : Option Bool → Bool
is_unmarked (Some mark) = not mark
is_unmarked None = false

-- a definition's number that has no mark
abbrev pub IsOpen : List Bool → ℕ → Type 0
IsOpen marks v = slice_get marks v ≡ Some false

-- a number that is marked, or none of a definition
abbrev pub IsKnown : List Bool → ℕ → Type 0
IsKnown marks v = slice_get marks v ≡ Some false → ⊥

abbrev pub AreKnown : List Bool → List ℕ → Type 0
AreKnown marks list = (i v : ℕ) → slice_get list i ≡ Some v → IsKnown marks v

abbrev pub marked : List Bool → ℕ
marked [] = 0
marked (b ∷ bs) = (if b then 1 else 0) + marked bs

-- no mark is there
abbrev pub HasNoMark : List Bool → Type 0
HasNoMark marks = (v : ℕ) → slice_get marks v ≡ Some true → ⊥
