-- How a counterstrategy is walked through: where it goes on from, where the outputs lead from there, and which seats are met.
use Rattle.std.specs.Prelude.{◌≡◌, ℕ, ◌≤◌, true, false, List, [], ◌∷◌, length, filter, slice_get, Option, Some, None}
use Rattle.spec_model.specs.declared.value.Value.{Value}
use Rattle.spec_model.specs.Values.{Assignment}
use Rattle.spec_model.specs.Rules.{Run}
use Rattle.spec_model.specs.Unrealizable.{NoteData}
use Rattle.spec_model.specs.Games.{GameData, State, listed}
use Rattle.spec_model.specs.Steps.{Before, legal_output, reached}
use Rattle.regions.specs.Kept.{Kept}
use Rattle.regions.specs.Rules.{input_count}
use Rattle.gr1_law.specs.EnvLayers.{EnvLayerSets}
use Rattle.gr1_law.specs.Counter.{CounterMemory, first_counter, IsGiven, IsNoted, AnsweredPlay}
use Rattle.strategy_parts.specs.Counts.{HasFewGoals, value_count}
use Rattle.counterstrategy.specs.declared.counterstrategy.Counterstrategy.{Counterstrategy}
use Rattle.counterstrategy.specs.declared.spot.EnvSpot.{EnvSpot}
use Rattle.counterstrategy.specs.Objects.{game_of, StandsFor}
use Rattle.counterstrategy.specs.Spots.{spot_at}
use Rattle.counter_tables.specs.declared.walk.Walk.{Walk}
use Rattle.counter_tables.specs.Seats.{SeatData, seats_of, AllDiffer}

-- ---- where plays end

-- Where a noted play ends: its last state, what is remembered there, the input that is given then, and the number of the set that
-- the input leads into.
pub record Ending : Type 0 where
  pub run : Run
  pub notes : List NoteData
  pub before : Before
  pub memory : CounterMemory
  pub rank : ℕ
  pub input : Assignment

-- a play of given inputs ends there
pub record IsEnding (g : GameData) (e : EnvLayerSets) (p : Ending) : Type 0 where
  pub play : AnsweredPlay g e p.run p.notes p.before p.memory
  pub given : IsGiven g e p.before p.memory p.rank p.input

abbrev pub seat_at : State → CounterMemory → ℕ → Assignment → SeatData
seat_at s k r x = record { values = listed s; spot = spot_at k r; reply = x }

-- nothing was played
pub record IsStart (p : Ending) : Type 0 where
  pub run : p.run ≡ []
  pub notes : p.notes ≡ []
  pub before : p.before ≡ None
  pub memory : p.memory ≡ first_counter

-- the play ends at the seat
pub record IsAtSeat (p : Ending) (v : SeatData) : Type 0 where
  pub state : State
  pub before : p.before ≡ Some state
  pub is : seat_at state p.memory p.rank p.input ≡ v

-- a play of given inputs ends at the seat; where none is given it is the empty one
abbrev pub IsFrom : GameData → EnvLayerSets → Option SeatData → Ending → Type 0
IsFrom g e None p = IsEnding g e p × IsStart p
IsFrom g e (Some v) p = IsEnding g e p × IsAtSeat p v

-- ---- one move

-- the output is legal, and this is where it leads
pub record MovesTo (g : GameData) (e : EnvLayerSets) (p : Ending) (y : Assignment) (v : SeatData) : Type 0 where
  pub legal : legal_output g p.before p.input y ≡ true
  pub next : CounterMemory
  pub noted : IsNoted g e p.memory (reached g p.before p.input y) next
  pub rank : ℕ
  pub reply : Assignment
  pub given : IsGiven g e (Some (reached g p.before p.input y)) next rank reply
  pub is : seat_at (reached g p.before p.input y) next rank reply ≡ v

-- what is told of an output: nothing where it isn't legal, else the spot, and the state and the input that is given then are written
abbrev pub Answers : GameData → EnvLayerSets → Ending → Assignment → Option EnvSpot → List Value → Assignment → Type 0
Answers g e p y None values reply = legal_output g p.before p.input y ≡ false
Answers g e p y (Some spot) values reply = MovesTo g e p y (record { values = values; spot = spot; reply = reply })

-- ---- rows

-- a legal output leads to the seat with this number
pub record LeadsTo (g : GameData) (e : EnvLayerSets) (seats : List SeatData) (p : Ending) (y : Assignment) (n : ℕ) : Type 0 where
  pub seat : SeatData
  pub moves : MovesTo g e p y seat
  pub there : slice_get seats n ≡ Some seat

abbrev pub LeadEach : GameData → EnvLayerSets → List SeatData → Ending → List Assignment → List ℕ → Type 0
LeadEach g e seats p [] [] = Unit {0}
LeadEach g e seats p [] (n ∷ ns) = ⊥
LeadEach g e seats p (y ∷ ys) [] = ⊥
LeadEach g e seats p (y ∷ ys) (n ∷ ns) = LeadsTo g e seats p y n × LeadEach g e seats p ys ns

-- one number for each legal one of these outputs, in order
abbrev pub IsRowOf : GameData → EnvLayerSets → List SeatData → Ending → List Assignment → List ℕ → Type 0
IsRowOf g e seats p ys row = LeadEach g e seats p (filter (legal_output g p.before p.input) ys) row

-- ---- what is met

-- some play of given inputs ends at each
abbrev pub AreSeats : GameData → EnvLayerSets → List SeatData → Type 0
AreSeats g e seats = (n : ℕ) (v : SeatData) → slice_get seats n ≡ Some v → (p : Ending) × IsEnding g e p × IsAtSeat p v

-- too many are met: plays end at one more than 1,024
abbrev pub AreTooMany : GameData → EnvLayerSets → Type 0
AreTooMany g e = (seats : List SeatData) × (length seats ≡ 1025) × AreSeats g e seats × AllDiffer seats

-- no seat is met, and there is room for a move
pub record HasMetNone (g : GameData) (w : Walk) : Type 0 where
  pub none : seats_of w.seats ≡ []
  pub input : length w.room.input.items ≡ input_count g
  pub state : length w.room.state.items ≡ value_count g

module _ {G R M : Type 0} (kept : G → Kept R M) where
  -- it stands for a play by these layers, of this game
  pub record Plays (c : Counterstrategy G R M) (g : GameData) (e : EnvLayerSets) : Type 0 where
    pub game : game_of kept c ≡ g
    pub run : Run
    pub notes : List NoteData
    pub before : Before
    pub memory : CounterMemory
    pub stands : StandsFor kept c e run notes before memory

  -- the play stands so, and plays end at the seats that were met
  pub record IsWalk (c : Counterstrategy G R M) (w : Walk) (g : GameData) (e : EnvLayerSets) : Type 0 where
    pub plays : Plays c g e
    pub few_goals : HasFewGoals g
    pub seats : AreSeats g e (seats_of w.seats)
    pub differ : AllDiffer (seats_of w.seats)
    pub few : length (seats_of w.seats) ≤ 1024
    pub input : length w.room.input.items ≡ input_count g
    pub state : length w.room.state.items ≡ value_count g
