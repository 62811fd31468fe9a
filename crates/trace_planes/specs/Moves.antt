-- Which lines hold at the moves between positions.
use Rattle.std.specs.Prelude.{◌≡◌, ℕ, ◌<◌, Bool, true, false, ◌&&◌, List, [], ◌∷◌, get_or, drop, Some}
use Rattle.spec_model.specs.Syntax.{Formula}
use Rattle.spec_model.specs.Games.{GameData, State, step_reading}
use Rattle.spec_model.specs.Steps.{line_holds}
use Rattle.column_planes.specs.Planes.{bit_in}
use Rattle.column_planes.specs.Columns.{ColumnData, IsSeen}

-- a state and the next one are at a position and the one after it
pub record IsMove (cs : ColumnData) (j : ℕ) (g : GameData) (r s : State) : Type 0 where
  pub both : IsSeen cs 0 j (step_reading g r s) 0
  pub later : IsSeen cs 1 j (step_reading g s s) 0

-- the plane has at each bit what is so at the move there
abbrev pub IsPlaneOfMoves : ColumnData → (bits : ℕ) → (GameData → State → State → Bool) → List ℕ → Type 0
IsPlaneOfMoves cs bits f plane = (j : ℕ) → j < bits → (g : GameData) (r s : State) → IsMove cs j g r s → bit_in plane j ≡ f g r s

-- the plane keeps of its bits those at which it is so
abbrev pub NarrowsTo : ColumnData → (bits : ℕ) → (GameData → State → State → Bool) → (old new : List ℕ) → Type 0
NarrowsTo cs bits f old new = (j : ℕ) → j < bits → (g : GameData) (r s : State) → IsMove cs j g r s → bit_in new j ≡ (bit_in old j && f g r s)

-- whether some lines hold; which of them are late is given beside them
abbrev pub are_kept : GameData → State → State → List Bool → List (ℕ × Formula) → Bool
are_kept g r s late [] = true
are_kept g r s late (l ∷ ls) = line_holds g (get_or late 0 false) (Some r) s l.1 && are_kept g r s (drop 1 late) ls
