-- A walk that places each definition behind those that it uses.
use Rattle.std.specs.Prelude.{◌≡◌, ◌⊎◌, ℕ, suc, ◌+◌, ◌-◌, ◌*◌, ◌<◌, Bool, true, List, length, map, Some, slice_get, slice_index_or}
use Rattle.spectra_uses.specs.declared.placing.Placer.{Placer}
use Rattle.spectra_uses.specs.Searching.{next_of, IsKnown, marked}
use Rattle.spectra_uses.specs.Orders.{StandsBefore, IsUse, BothOnCycle}

-- The uses of all definitions; the path, on which each waits for the next one, that it uses; those that are placed; a mark for
-- each of both; and how many uses of each were followed.
pub record Placing : Type 0 where
  pub uses : List (List ℕ)
  pub path : List ℕ
  pub order : List ℕ
  pub marks : List Bool
  pub followed : List ℕ

abbrev pub placing_data : Placer → Placing
placing_data p = record { uses = map (λ us. us.items) p.uses.now; path = p.path.items; order = p.order.items; marks = p.marks.items; followed = p.followed.items }

-- each on a path uses the next one
abbrev pub IsChain : List (List ℕ) → List ℕ → Type 0
IsChain uses path = (p a b : ℕ) → slice_get path p ≡ Some a → slice_get path (suc p) ≡ Some b → IsUse uses a b

-- one that would stand on a path next is used by the last one there
abbrev pub IsNext : List (List ℕ) → List ℕ → ℕ → Type 0
IsNext uses path v = (p a : ℕ) → suc p ≡ length path → slice_get path p ≡ Some a → IsUse uses a v

-- the uses that were followed are known
abbrev pub AreFollowedOn : Placing → Type 0
AreFollowedOn s = (u i v : ℕ) → i < slice_index_or s.followed u 0 → slice_get (next_of s.uses u) i ≡ Some v → IsKnown s.marks v

-- each that is placed stands behind those that it uses, but for two that are used in their own bodies
abbrev pub ArePlaced : List (List ℕ) → List ℕ → Type 0
ArePlaced uses order = (i user used : ℕ) → slice_get order i ≡ Some user → IsUse uses user used → used < length uses → StandsBefore order i used ⊎ BothOnCycle uses (length uses) user used

-- the marks are of those that stand on the path or are placed, and of each once
pub record IsPlacing (s : Placing) : Type 0 where
  pub size : length s.marks ≡ length s.uses
  pub room : length s.followed ≡ length s.uses
  pub counted : marked s.marks ≡ length s.path + length s.order
  pub listed : (v : ℕ) → slice_get s.marks v ≡ Some true → StandsBefore s.path (length s.path) v ⊎ StandsBefore s.order (length s.order) v
  pub chain : IsChain s.uses s.path
  pub followed : AreFollowedOn s
  pub waiting : (p v : ℕ) → slice_get s.path p ≡ Some v → v < length s.uses
  pub within : (i v : ℕ) → slice_get s.order i ≡ Some v → v < length s.uses
  pub placed : ArePlaced s.uses s.order

-- what is left of it: each definition is put on the path once, and placed once
abbrev pub left : Placing → ℕ
left s = 2 * length s.uses - (length s.path + 2 * length s.order)

-- a placing that has gone on
pub record PlacesOn (old new : Placing) : Type 0 where
  pub placing : IsPlacing new
  pub uses : new.uses ≡ old.uses
  pub known : (v : ℕ) → IsKnown old.marks v → IsKnown new.marks v

-- the last one on the path
abbrev pub IsLast : List ℕ → ℕ → Type 0
IsLast path v = slice_get path (length path - 1) ≡ Some v
