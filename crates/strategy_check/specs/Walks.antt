-- How a strategy is walked through: where it goes on from, what is chosen from there, and which seats are met.
use Rattle.std.specs.Prelude.{◌≡◌, ℕ, ◌≤◌, true, false, List, [], ◌∷◌, length, filter, slice_get, Option, Some, None}
use Rattle.spec_model.specs.declared.value.Value.{Value}
use Rattle.spec_model.specs.Values.{Assignment}
use Rattle.spec_model.specs.Rules.{Run}
use Rattle.spec_model.specs.Games.{GameData, State, listed}
use Rattle.spec_model.specs.Steps.{Before, legal_input, reached}
use Rattle.spec_model.specs.Sets.{StateSet}
use Rattle.regions.specs.Kept.{Kept}
use Rattle.regions.specs.Rules.{output_count}
use Rattle.gr1_law.specs.Layers.{LayerSets}
use Rattle.gr1_law.specs.Choice.{Memory, first_memory, IsChosen}
use Rattle.strategy_parts.specs.Counts.{HasFewGoals, value_count}
use Rattle.controller.specs.declared.controller.Controller.{Controller}
use Rattle.controller.specs.declared.spot.Spot.{Spot}
use Rattle.controller.specs.Objects.{game_of, StandsFor}
use Rattle.controller.specs.Spots.{spot_at, EndsAt}
use Rattle.strategy_check.specs.declared.walk.Walk.{Walk}
use Rattle.strategy_check.specs.Seats.{SeatData, seats_of, AllDiffer}

abbrev pub seat_at : State → Memory → SeatData
seat_at s m = record { values = listed s; spot = spot_at m }

-- ---- one move

-- this play ends at the seat; where none is given it is the empty one
abbrev pub IsFrom : GameData → LayerSets → Option SeatData → Run → Before → Memory → Type 0
IsFrom g l None h b m = (h ≡ []) × (b ≡ None) × (m ≡ first_memory)
IsFrom g l (Some v) h b m = (s : State) × (b ≡ Some s) × EndsAt g l h s m v.values v.spot

-- the input is legal, and this is where the choice after it leads
pub record MovesTo (g : GameData) (l : LayerSets) (b : Before) (m : Memory) (x : Assignment) (v : SeatData) : Type 0 where
  pub legal : legal_input g b x ≡ true
  pub output : Assignment
  pub next : Memory
  pub chosen : IsChosen g l b m x output next
  pub is : seat_at (reached g b x output) next ≡ v

-- what is answered for an input: nothing where it isn't legal, else the spot, and the state is written
abbrev pub Answers : GameData → LayerSets → Before → Memory → Assignment → Option Spot → List Value → Type 0
Answers g l b m x None values = legal_input g b x ≡ false
Answers g l b m x (Some spot) values = MovesTo g l b m x (record { values = values; spot = spot })

-- ---- rows

-- the choice after a legal input leads to the seat with this number
pub record LeadsTo (g : GameData) (l : LayerSets) (seats : List SeatData) (b : Before) (m : Memory) (x : Assignment) (n : ℕ) : Type 0 where
  pub seat : SeatData
  pub moves : MovesTo g l b m x seat
  pub there : slice_get seats n ≡ Some seat

abbrev pub LeadEach : GameData → LayerSets → List SeatData → Before → Memory → List Assignment → List ℕ → Type 0
LeadEach g l seats b m [] [] = Unit {0}
LeadEach g l seats b m [] (n ∷ ns) = ⊥
LeadEach g l seats b m (x ∷ xs) [] = ⊥
LeadEach g l seats b m (x ∷ xs) (n ∷ ns) = LeadsTo g l seats b m x n × LeadEach g l seats b m xs ns

-- one number for each legal one of these inputs, in order
abbrev pub IsRowOf : GameData → LayerSets → List SeatData → Before → Memory → List Assignment → List ℕ → Type 0
IsRowOf g l seats b m xs row = LeadEach g l seats b m (filter (legal_input g b) xs) row

-- ---- what is met

-- some play of chosen outputs ends at each
abbrev pub AreSeats : GameData → LayerSets → List SeatData → Type 0
AreSeats g l seats = (n : ℕ) (v : SeatData) → slice_get seats n ≡ Some v → (h : Run) × (s : State) × (m : Memory) × EndsAt g l h s m v.values v.spot

-- too many are met: plays end at one more than 1,024
abbrev pub AreTooMany : GameData → LayerSets → Type 0
AreTooMany g l = (seats : List SeatData) × (length seats ≡ 1025) × AreSeats g l seats × AllDiffer seats

-- no seat is met, and there is room for a move
pub record HasMetNone (g : GameData) (w : Walk) : Type 0 where
  pub none : seats_of w.seats ≡ []
  pub output : length w.room.output.items ≡ output_count g
  pub state : length w.room.state.items ≡ value_count g

module _ {G R M : Type 0} (kept : G → Kept R M) where
  -- it stands for a play by these layers, of this game
  pub record Plays (c : Controller G R M) (g : GameData) (z : StateSet) (l : LayerSets) : Type 0 where
    pub game : game_of kept c ≡ g
    pub run : Run
    pub before : Before
    pub memory : Memory
    pub stands : StandsFor kept c z l run before memory

  -- the play stands so, and plays end at the seats that were met
  pub record IsWalk (c : Controller G R M) (w : Walk) (g : GameData) (z : StateSet) (l : LayerSets) : Type 0 where
    pub plays : Plays c g z l
    pub few_goals : HasFewGoals g
    pub seats : AreSeats g l (seats_of w.seats)
    pub differ : AllDiffer (seats_of w.seats)
    pub few : length (seats_of w.seats) ≤ 1024
    pub output : length w.room.output.items ≡ output_count g
    pub state : length w.room.state.items ≡ value_count g
