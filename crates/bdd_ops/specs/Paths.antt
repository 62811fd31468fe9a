-- The first bits, level by level and false before true, that agree with what is fixed and make a function true.
use Rattle.std.specs.Prelude.{◌≡◌, ◌⊎◌, ◌≤◌, ℕ, zero, suc, Bool, true, false, Option, Some, None, List, slice_index_or}
use Rattle.spec_model.specs.Diagrams.{Bits, Function}

-- the bit is the fixed one, if one is fixed
abbrev pub AgreesAt : Option Bool → Bool → Type 0
AgreesAt None bit = Unit {0}
AgreesAt (Some fixed) bit = bit ≡ fixed

abbrev pub fixed_at : List (Option Bool) → ℕ → Option Bool
fixed_at fixed level = slice_index_or fixed level None

-- the bits from this level on agree with what is fixed
abbrev pub Agrees : List (Option Bool) → ℕ → Bits → Type 0
Agrees fixed level s = (k : ℕ) → level ≤ k → AgreesAt (fixed_at fixed k) (s k)

-- over so many levels from this one on, the first bits are the second, or false where they differ first
abbrev pub NotAfter : ℕ → ℕ → Bits → Bits → Type 0
NotAfter zero level u v = Unit {0}
NotAfter (suc count) level u v = ((u level ≡ false) × (v level ≡ true)) ⊎ ((u level ≡ v level) × NotAfter count (suc level) u v)

-- the bits agree and make the function true, and none before them do
pub record IsFirst (fixed : List (Option Bool)) (f : Function) (level count : ℕ) (s : Bits) : Type 0 where
  pub agrees : Agrees fixed level s
  pub true_there : f s ≡ true
  pub first : (t : Bits) → Agrees fixed level t → f t ≡ true → NotAfter count level s t

-- no bits agree and make the function true
abbrev pub HasNone : List (Option Bool) → Function → ℕ → Type 0
HasNone fixed f level = (t : Bits) → Agrees fixed level t → f t ≡ true → ⊥
