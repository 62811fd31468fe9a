-- What a walk adds, and the nodes that it makes.
use Rattle.std.specs.Prelude.{◌≡◌, ℕ, false, List, [], ◌∷◌, ◌++◌, length, flat_map, slice_get, Option, Some, None, IsTrue}
use Rattle.spec_model.specs.declared.value.Value.{Value}
use Rattle.spec_model.specs.Values.{Assignment}
use Rattle.spec_model.specs.Rules.{Run}
use Rattle.spec_model.specs.Games.{GameData, State, listed, inputs_of}
use Rattle.spec_model.specs.Steps.{Before, is_state, legal_input}
use Rattle.gr1_law.specs.Layers.{LayerSets}
use Rattle.gr1_law.specs.Choice.{Memory}
use Rattle.controller.specs.Spots.{EndsAt}
use Rattle.strategy_tables.specs.Tables.{NodeData}
use Rattle.strategy_check.specs.Seats.{SeatData, CountsUp}
use Rattle.strategy_check.specs.Walks.{LeadsTo, IsRowOf}

-- the seat with a number, where one is given
abbrev pub seat_numbered : List SeatData → Option ℕ → Option SeatData
seat_numbered seats None = None
seat_numbered seats (Some n) = slice_get seats n

-- one number more, where there is one
abbrev pub with_number : List ℕ → Option ℕ → List ℕ
with_number row None = row
with_number row (Some n) = row ++ n ∷ []

-- some are added behind those that were met
abbrev pub IsMore : (old new : List SeatData) → Type 0
IsMore old new = (more : List SeatData) × (new ≡ old ++ more)

-- after one input: nothing where it isn't legal, else the number of where the choice leads
abbrev pub Leads : GameData → LayerSets → (old new : List SeatData) → Before → Memory → Assignment → Option ℕ → Type 0
Leads g l old new b m x None = (legal_input g b x ≡ false) × (new ≡ old)
Leads g l old new b m x (Some n) = LeadsTo g l new b m x n × IsMore old new × CountsUp (length old) (n ∷ []) (length new)

-- after several: one number for each legal one
pub record AddsRow (g : GameData) (l : LayerSets) (old new : List SeatData) (b : Before) (m : Memory) (xs : List Assignment) (row : List ℕ) : Type 0 where
  pub leads : IsRowOf g l new b m xs row
  pub more : IsMore old new
  pub counts : CountsUp (length old) row (length new)

-- a play ends at the seat, and the row leads on from there
pub record IsWalked (g : GameData) (l : LayerSets) (seats : List SeatData) (v : SeatData) (row : List ℕ) : Type 0 where
  pub run : Run
  pub state : State
  pub memory : Memory
  pub ends : EndsAt g l run state memory v.values v.spot
  pub leads : IsRowOf g l seats (Some state) memory (inputs_of g) row

-- each seat has its row, and the rows, one after the other, count up those that are added
pub record IsWalkedTo (g : GameData) (l : LayerSets) (old new : List SeatData) (rows : List (List ℕ)) : Type 0 where
  pub more : IsMore old new
  pub counted : length rows ≡ length new
  pub each : (n : ℕ) (v : SeatData) (row : List ℕ) → slice_get new n ≡ Some v → slice_get rows n ≡ Some row → IsWalked g l new v row
  pub counts : CountsUp (length old) (flat_map (λ row. row) rows) (length new)

-- ---- nodes

-- these are the values of a state of the game
abbrev pub IsInGame : GameData → List Value → Type 0
IsInGame g values = (s : State) × IsTrue (is_state g s) × (listed s ≡ values)

abbrev pub AreInGame : GameData → List SeatData → Type 0
AreInGame g seats = (n : ℕ) (v : SeatData) → slice_get seats n ≡ Some v → IsInGame g v.values

-- the node of a seat, with its row
pub record IsNodeOfSeat (g : GameData) (v : NodeData) (seat : SeatData) (row : List ℕ) : Type 0 where
  pub state : (s : State) → IsTrue (is_state g s) → listed s ≡ seat.values → v.state ≡ s
  pub goal : v.goal ≡ seat.spot.goal
  pub rank : v.rank ≡ seat.spot.rank
  pub asm : v.asm ≡ seat.spot.index
  pub layer : v.layer ≡ 0
  pub reply : v.reply ≡ []
  pub next : v.next ≡ row

abbrev pub AreNodesOf : GameData → List NodeData → List SeatData → List (List ℕ) → Type 0
AreNodesOf g [] [] [] = Unit {0}
AreNodesOf g (v ∷ vs) (seat ∷ seats) (row ∷ rows) = IsNodeOfSeat g v seat row × AreNodesOf g vs seats rows
AreNodesOf g _ _ _ = ⊥
