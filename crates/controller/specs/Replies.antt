-- Replies that are remembered, and what they tell of turns.
use Rattle.std.specs.Prelude.{◌≡◌, ℕ, ◌<◌, ◌⊎◌, true, List, length, get_or, Some}
use Rattle.spec_model.specs.declared.value.Value.{Value}
use Rattle.spec_model.specs.Values.{Assignment}
use Rattle.spec_model.specs.Games.{GameData, State, listed}
use Rattle.spec_model.specs.Steps.{Before}
use Rattle.regions.specs.Rules.{input_count, output_count}
use Rattle.strategy_parts.specs.Counts.{value_count}
use Rattle.gr1_law.specs.Layers.{LayerSets}
use Rattle.gr1_law.specs.Choice.{Memory}
use Rattle.controller.specs.declared.replies.Noted.{Noted}
use Rattle.controller.specs.declared.replies.Reply.{Reply}
use Rattle.controller.specs.declared.replies.Replies.{Replies}
use Rattle.controller.specs.Turns.{IsTurn}

abbrev pub noted_data : Noted → Memory
noted_data n = record { goal = n.goal; rank = n.rank; index = n.index }

-- the place has a reply to this
pub record IsReply (r : Reply) (before after : Memory) (state input output : List Value) : Type 0 where
  pub filled : r.filled ≡ true
  pub noted_before : noted_data r.before ≡ before
  pub noted_after : noted_data r.after ≡ after
  pub state_is : r.state.items ≡ state
  pub input_is : r.input.items ≡ input
  pub output_is : r.output.items ≡ output

-- some place has
abbrev pub HasReply : Replies → Memory → Memory → List Value → List Value → List Value → Type 0
HasReply rs before after state input output = (k : ℕ) × (k < length rs.replies.items) × ((d : Reply) → IsReply (get_or rs.replies.items k d) before after state input output)

-- the place has room for so many values
pub record IsRoomy (states inputs outputs : ℕ) (r : Reply) : Type 0 where
  pub state : length r.state.items ≡ states
  pub input : length r.input.items ≡ inputs
  pub output : length r.output.items ≡ outputs

-- there are so many places, each with room
pub record HasRoom (states inputs outputs : ℕ) (rs : Replies) : Type 0 where
  pub places : length rs.replies.items ≡ 128
  pub each : (k : ℕ) → k < length rs.replies.items → (d : Reply) → IsRoomy states inputs outputs (get_or rs.replies.items k d)
  pub last : length rs.last.items ≡ states

-- this reply came, and no other
abbrev pub AddsReply : Replies → Replies → Memory → Memory → List Value → List Value → List Value → Type 0
AddsReply old new before after state input output =
    (b a : Memory) (s i o : List Value) → HasReply new b a s i o → HasReply old b a s i o ⊎ ((b ≡ before) × (a ≡ after) × (s ≡ state) × (i ≡ input) × (o ≡ output))

-- a turn after the input has this output, and this is remembered then
abbrev pub IsToldTurn : GameData → LayerSets → Before → (before : Memory) → (input output : Assignment) → (after : Memory) → Type 0
IsToldTurn g l b before input output after = (y : Assignment) (next : Memory) → IsTurn g l b before input y next → (output ≡ y) × (after ≡ next)

-- each turn after the state and the input, where this is remembered, has this output, and this is remembered then
abbrev pub Tells : GameData → LayerSets → (before after : Memory) → (state input output : List Value) → Type 0
Tells g l before after state input output = (s : State) → listed s ≡ state → IsToldTurn g l (Some s) before input output after

-- each reply tells of turns
abbrev pub AreRepliesOf : GameData → LayerSets → Replies → Type 0
AreRepliesOf g l rs = (before after : Memory) (state input output : List Value) → HasReply rs before after state input output → Tells g l before after state input output

-- there is room for a state, an input and an output of the game
abbrev pub HasRoomFor : GameData → Replies → Type 0
HasRoomFor g rs = HasRoom (value_count g) (input_count g) (output_count g) rs

-- so there is, and no reply
pub record IsWithoutReplies (g : GameData) (rs : Replies) : Type 0 where
  pub room : HasRoomFor g rs
  pub none : (before after : Memory) (state input output : List Value) → HasReply rs before after state input output → ⊥
