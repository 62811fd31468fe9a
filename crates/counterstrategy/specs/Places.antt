-- Where a play is, and what is remembered of it.
use Rattle.std.specs.Prelude.{◌≡◌}
use Rattle.spec_model.specs.Games.{GameData}
use Rattle.spec_model.specs.Steps.{Before}
use Rattle.gr1_law.specs.Counter.{CounterMemory}
use Rattle.strategy_parts.specs.Positions.{IsAfter}
use Rattle.counterstrategy.specs.declared.remembered.Remembered.{Remembered}

abbrev pub memory_at : Remembered → CounterMemory
memory_at p = record { denying = p.denying; layer = p.layer; goal = p.goal; before = p.before; index = p.index }

-- The place is after this state, and this is remembered.
pub record IsAt (g : GameData) (p : Remembered) (b : Before) (k : CounterMemory) : Type 0 where
  pub position : IsAfter g p.position b
  pub memory : memory_at p ≡ k
