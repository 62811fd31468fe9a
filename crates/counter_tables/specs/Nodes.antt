-- What a walk adds, and the nodes that it makes.
use Rattle.std.specs.Prelude.{◌≡◌, ℕ, false, List, [], ◌∷◌, ◌++◌, length, flat_map, slice_get, Option, Some, None, IsTrue}
use Rattle.spec_model.specs.declared.value.Value.{Value}
use Rattle.spec_model.specs.Values.{Assignment}
use Rattle.spec_model.specs.Games.{GameData, State, listed, outputs_of}
use Rattle.spec_model.specs.Steps.{is_state, legal_output}
use Rattle.gr1_law.specs.EnvLayers.{EnvLayerSets}
use Rattle.counterstrategy.specs.declared.spot.EnvSpot.{EnvSpot}
use Rattle.strategy_tables.specs.Tables.{NodeData}
use Rattle.counter_tables.specs.Seats.{SeatData, CountsUp}
use Rattle.counter_tables.specs.Walks.{Ending, IsEnding, IsAtSeat, LeadsTo, IsRowOf}

-- the seat with a number, where one is given
abbrev pub seat_numbered : List SeatData → Option ℕ → Option SeatData
seat_numbered seats None = None
seat_numbered seats (Some n) = slice_get seats n

-- some are added behind those that were met
abbrev pub IsMore : (old new : List SeatData) → Type 0
IsMore old new = (more : List SeatData) × (new ≡ old ++ more)

-- after one output: nothing where it isn't legal, else the number of where it leads
abbrev pub Leads : GameData → EnvLayerSets → (old new : List SeatData) → Ending → Assignment → Option ℕ → Type 0
Leads g e old new p y None = (legal_output g p.before p.input y ≡ false) × (new ≡ old)
Leads g e old new p y (Some n) = LeadsTo g e new p y n × IsMore old new × CountsUp (length old) (n ∷ []) (length new)

-- after several: one number for each legal one
pub record AddsRow (g : GameData) (e : EnvLayerSets) (old new : List SeatData) (p : Ending) (ys : List Assignment) (row : List ℕ) : Type 0 where
  pub leads : IsRowOf g e new p ys row
  pub more : IsMore old new
  pub counts : CountsUp (length old) row (length new)

-- one output more: a row of those before becomes one of those with it
pub record AddsOne (g : GameData) (e : EnvLayerSets) (old new : List SeatData) (p : Ending) (y : Assignment) (row longer : List ℕ) : Type 0 where
  pub more : IsMore old new
  pub adds : (first : List SeatData) (ys : List Assignment) → AddsRow g e first old p ys row → AddsRow g e first new p (ys ++ y ∷ []) longer

-- a play ends at the seat, and the row leads on from there
pub record IsWalked (g : GameData) (e : EnvLayerSets) (seats : List SeatData) (v : SeatData) (row : List ℕ) : Type 0 where
  pub ending : Ending
  pub ends : IsEnding g e ending
  pub at : IsAtSeat ending v
  pub leads : IsRowOf g e seats ending (outputs_of g) row

-- each seat has its row, and the rows, one after the other, count up those that are added
pub record IsWalkedTo (g : GameData) (e : EnvLayerSets) (old new : List SeatData) (rows : List (List ℕ)) : Type 0 where
  pub more : IsMore old new
  pub counted : length rows ≡ length new
  pub each : (n : ℕ) (v : SeatData) (row : List ℕ) → slice_get new n ≡ Some v → slice_get rows n ≡ Some row → IsWalked g e new v row
  pub counts : CountsUp (length old) (flat_map (λ row. row) rows) (length new)

-- ---- nodes

-- these are the values of a state of the game
abbrev pub IsInGame : GameData → List Value → Type 0
IsInGame g values = (s : State) × IsTrue (is_state g s) × (listed s ≡ values)

abbrev pub AreInGame : GameData → List SeatData → Type 0
AreInGame g seats = (n : ℕ) (v : SeatData) → slice_get seats n ≡ Some v → IsInGame g v.values

abbrev pub node_spot : NodeData → EnvSpot
node_spot v = record { layer = v.layer; goal = v.goal; asm = v.asm; rank = v.rank }

-- the node of a seat, with its row
pub record IsNodeOfSeat (g : GameData) (v : NodeData) (seat : SeatData) (row : List ℕ) : Type 0 where
  pub state : (s : State) → IsTrue (is_state g s) → listed s ≡ seat.values → v.state ≡ s
  pub spot : node_spot v ≡ seat.spot
  pub reply : v.reply ≡ seat.reply
  pub next : v.next ≡ row

abbrev pub AreNodesOf : GameData → List NodeData → List SeatData → List (List ℕ) → Type 0
AreNodesOf g [] [] [] = Unit {0}
AreNodesOf g (v ∷ vs) (seat ∷ seats) (row ∷ rows) = IsNodeOfSeat g v seat row × AreNodesOf g vs seats rows
AreNodesOf g _ _ _ = ⊥
