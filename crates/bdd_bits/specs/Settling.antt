-- How the first bits are found, one after the other. No public clause cites what follows.
use Rattle.std.specs.Prelude.{◌≡◌, ◌≢◌, ◌<◌, ◌≤◌, true, ℕ, Bool, Option, Some, None, List, length}
use Rattle.spec_model.specs.Diagrams.{Bits, Function}
use Rattle.bdd_ops.specs.Paths.{Agrees, fixed_at, NotAfter}
use Rattle.bdd_bits.specs.declared.paths.Room.{Room}

-- the bits agree, and make the function true
pub record IsSome (fixed : List (Option Bool)) (f : Function) (s : Bits) : Type 0 where
  pub agrees : Agrees fixed 0 s
  pub true_there : f s ≡ true

-- One bit more is settled: it stays as it was fixed, and else it is false where some bits that agree and make the function
-- true have it so.
pub record IsSettledAt (f : Function) (bit : ℕ) (old new : List (Option Bool)) (s : Bits) : Type 0 where
  pub some : IsSome new f s
  pub here : fixed_at new bit ≡ Some (s bit)
  pub others : (j : ℕ) → j ≢ bit → fixed_at new j ≡ fixed_at old j
  pub kept : (b : Bool) → fixed_at old bit ≡ Some b → s bit ≡ b
  pub least : fixed_at old bit ≡ None → s bit ≡ true → (t : Bits) → Agrees old 0 t → f t ≡ true → t bit ≡ true

-- there is a place for each of so many levels, and for each bit
pub record HasRoom (count : ℕ) (room : Room) : Type 0 where
  pub levels : room.over_levels.levels ≡ count
  pub placed : length room.placed.items ≡ count
  pub by_level : length room.by_level.items ≡ count
  pub settled : length room.settled.items ≡ count
  pub other : length room.other.items ≡ count

-- so many bits are settled, the first of those that agree with what was fixed and make the function true
pub record AreSettled (f : Function) (fixed : List (Option Bool)) (count : ℕ) (settled : List (Option Bool)) (s : Bits) : Type 0 where
  pub some : IsSome settled f s
  pub agrees : Agrees fixed 0 s
  pub done : (j : ℕ) → j < count → fixed_at settled j ≡ Some (s j)
  pub rest : (j : ℕ) → count ≤ j → fixed_at settled j ≡ fixed_at fixed j
  pub first : (t : Bits) → Agrees fixed 0 t → f t ≡ true → NotAfter count 0 s t
