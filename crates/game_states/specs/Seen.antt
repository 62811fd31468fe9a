-- What is seen of a state: what it gives to expressions, and the hidden values that follow it.
use Rattle.std.specs.Prelude.{ℕ, List}
use Rattle.spec_model.specs.Values.{Assignment}
use Rattle.spec_model.specs.Games.{GameData, State, next_hidden}
use Rattle.game_values.specs.declared.read.Readout.{Readout}
use Rattle.game_values.specs.Moments.{MomentData, moment_data, moment_of}

-- the state with these values
abbrev pub state_with : List ℕ → Assignment → Assignment → State
state_with h x y = record { hidden = h; position = record { input = x; output = y } }

pub record SeenData : Type 0 where
  pub moment : MomentData
  pub next : List ℕ

abbrev pub seen : Readout → SeenData
seen r = record { moment = moment_data r.moment; next = r.next.items }

abbrev pub seen_at : GameData → State → SeenData
seen_at g s = record { moment = moment_of g s; next = next_hidden g s }
