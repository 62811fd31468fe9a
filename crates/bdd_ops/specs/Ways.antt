-- The way that bits lead from a node down to a level. No public clause cites this file.
use Rattle.std.specs.Prelude.{◌≡◌, ◌≤◌, ◌<◌, ◌+◌, ◌⊎◌, ℕ, Bool, true, false, Option, List, slice_set}
use Rattle.spec_model.specs.Diagrams.{Bits, Function}
use Rattle.spec_model.specs.DiagramReads.{bits_of}
use Rattle.bdd_store.specs.declared.edge.Edge.{Edge}
use Rattle.bdd_store.specs.State.{IsEdge}
use Rattle.bdd_ops.specs.Contents.{Contents, function_at}
use Rattle.bdd_ops.specs.Steps.{level_at}
use Rattle.bdd_ops.specs.Paths.{AgreesAt, Agrees, fixed_at}
use Rattle.bdd_ops.specs.Together.{IsChosen, HasNoneWith}

-- before the level the second bits are the first
abbrev pub AreSameBefore : ℕ → Bits → Bits → Type 0
AreSameBefore level s t = (k : ℕ) → k < level → t k ≡ s k

-- no bits that are these before the level agree and make the function true
abbrev pub HasNoneBehind : List (Option Bool) → Function → ℕ → Bits → Type 0
HasNoneBehind fixed f level s = (t : Bits) → AreSameBefore level s t → Agrees fixed 0 t → f t ≡ true → ⊥

-- before the level the bits agree, and where one is true, false there has none
pub record IsWay (fixed : List (Option Bool)) (f : Function) (level : ℕ) (s : Bits) : Type 0 where
  pub agrees : (k : ℕ) → k < level → AgreesAt (fixed_at fixed k) (s k)
  pub tried : (k : ℕ) → k < level → s k ≡ true → (t : Bits) → AreSameBefore k s t → t k ≡ false → Agrees fixed 0 t → f t ≡ true → ⊥

-- the node is what the bits before the level leave of the function
pub record IsLed (c : Contents) (f : Function) (level : ℕ) (s : Bits) (n : ℕ) : Type 0 where
  pub live : IsEdge c.state n
  pub within : level ≤ c.state.table.levels
  pub from : level ≤ level_at c n
  pub same : (t : Bits) → AreSameBefore level s t → function_at c n t ≡ f t

-- of the bits that lead to a part of the edge at its level, this is the first
pub record IsFirstPart (c : Contents) (fixed : List (Option Bool)) (level : ℕ) (e : Edge) (at : ℕ) (bit : Bool) (part : Edge) : Type 0 where
  pub here : at ≡ level
  pub allowed : AgreesAt (fixed_at fixed level) bit
  pub chosen : IsChosen c level bit e part
  pub low_none : bit ≡ true → HasNoneWith fixed (function_at c e.0) level false

-- of the way to a level, the last level at which false can be turned to true: behind the way as it was there are none, if there
-- are none behind the level
pub record IsLast (c : Contents) (fixed : List (Option Bool)) (f : Function) (out : List Bool) (level at : ℕ) (bit : Bool) (part : Edge) : Type 0 where
  pub before : at < level
  pub was : bits_of out at ≡ false
  pub is : bit ≡ true
  pub allowed : AgreesAt (fixed_at fixed at) bit
  pub led : IsLed c f (at + 1) (bits_of (slice_set out at bit)) part.0
  pub none : HasNoneBehind fixed f level (bits_of out) → HasNoneBehind fixed f (at + 1) (bits_of out)

-- a bit at the level goes on from the way to it, or true for false at an earlier one goes back
pub record IsNextBranch (c : Contents) (fixed : List (Option Bool)) (f : Function) (out : List Bool) (level at : ℕ) (bit : Bool) (part : Edge) : Type 0 where
  pub below : at < c.state.table.levels
  pub way : IsWay fixed f (at + 1) (bits_of (slice_set out at bit))
  pub led : IsLed c f (at + 1) (bits_of (slice_set out at bit)) part.0
  pub later : (at ≡ level) ⊎ ((at < level) × (bits_of out at ≡ false) × (bit ≡ true))
