-- Where a play is, and what is remembered of it.
use Rattle.std.specs.Prelude.{◌≡◌}
use Rattle.spec_model.specs.Games.{GameData}
use Rattle.spec_model.specs.Steps.{Before}
use Rattle.gr1_law.specs.Choice.{Memory}
use Rattle.strategy_parts.specs.Positions.{IsAfter}
use Rattle.controller.specs.declared.remembered.Remembered.{Remembered}

abbrev pub memory_at : Remembered → Memory
memory_at p = record { goal = p.goal; rank = p.rank; index = p.index }

-- The place is after this state, and this is remembered.
pub record IsAt (g : GameData) (p : Remembered) (b : Before) (m : Memory) : Type 0 where
  pub position : IsAfter g p.position b
  pub memory : memory_at p ≡ m
