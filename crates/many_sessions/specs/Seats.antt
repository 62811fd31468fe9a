-- Which session a seat stands for, and the seats with the play that serves them.
use Rattle.std.specs.Prelude.{◌≡◌, ℕ, ◌+◌, ◌<◌, List, [], length, get_or, Some, None}
use Rattle.spec_model.specs.declared.value.Value.{Value}
use Rattle.spec_model.specs.Syntax.{Specification}
use Rattle.spec_model.specs.Rules.{Run}
use Rattle.spec_model.specs.Games.{GameData, State}
use Rattle.spec_model.specs.Steps.{Before}
use Rattle.spec_model.specs.Sets.{StateSet}
use Rattle.regions.specs.Kept.{Kept}
use Rattle.regions.specs.Rules.{input_count, output_count}
use Rattle.gr1_law.specs.Layers.{LayerSets}
use Rattle.gr1_law.specs.Choice.{Memory, first_memory}
use Rattle.strategy_parts.specs.Counts.{HasFewGoals, value_count}
use Rattle.controller.specs.declared.controller.Controller.{Controller}
use Rattle.controller.specs.declared.spot.Spot.{Spot}
use Rattle.controller.specs.Objects.{game_of, StandsFor}
use Rattle.controller.specs.Spots.{EndsAt}
use Rattle.session.specs.Strategies.{rounds_of, IsOf}
use Rattle.many_sessions.specs.declared.seat.At.{At}
use Rattle.many_sessions.specs.declared.seat.At.TheVariants as at
use Rattle.many_sessions.specs.declared.seat.Seat.{Seat}
use Rattle.many_sessions.specs.declared.many.Many.{Many}
use Rattle.many_sessions.specs.Numbered.{most_sessions}
use Rattle.many_sessions.specs.Solo.{Session, alive, over}
use Rattle.many_sessions.specs.Terms.{ManyState}

-- ---- one seat

module _ (g : GameData) (l : LayerSets) where
  -- before the first move the play is empty; later it ends in the state and with the spot
  abbrev pub StandsAt : At → List Value → Spot → Session → Type 0
  StandsAt at.Fresh values spot (alive h b m) = (h ≡ []) × (b ≡ None) × (m ≡ first_memory)
  StandsAt at.Playing values spot (alive h b m) = (s : State) × (b ≡ Some s) × EndsAt g l h s m values spot
  StandsAt at.Over values spot (over h) = Unit {0}
  StandsAt _ _ _ _ = ⊥

  pub record IsSeatOf (seat : Seat) (t : Session) : Type 0 where
    pub room : length seat.state.items ≡ value_count g
    pub stands : StandsAt seat.at seat.state.items seat.spot t

  -- ---- all seats

  -- the seat that is numbered so, from 1, stands for the session of that number
  abbrev pub AreSeatsOf : List Seat → (ℕ → Session) → Type 0
  AreSeatsOf seats sessions = (i : ℕ) → i < length seats → (d : Seat) → IsSeatOf (get_or seats i d) (sessions (i + 1))

-- there is room for an input and an output, and a seat for each session
pub record HasRoomFor (g : GameData) (many : Many) : Type 0 where
  pub seats : length many.seats.items ≡ most_sessions
  pub input : length many.input.items ≡ input_count g
  pub output : length many.output.items ≡ output_count g

-- there are as many seats, and what stands in the room for moves stays
pub record KeepsMoves (old new : Many) : Type 0 where
  pub seats : length new.seats.items ≡ length old.seats.items
  pub input : new.input ≡ old.input
  pub output : new.output ≡ old.output

-- the seats stay, and the room
pub record KeepsSeats (old new : Many) : Type 0 where
  pub seats : new.seats ≡ old.seats
  pub input : length new.input.items ≡ length old.input.items
  pub output : length new.output.items ≡ length old.output.items

-- it was made for the game, and no session has begun
pub record IsNewFor (g : GameData) (many : Many) : Type 0 where
  pub room : HasRoomFor g many
  pub fresh : (i : ℕ) → i < length many.seats.items → (d : Seat) → ((get_or many.seats.items i d).at ≡ at.Fresh) × (length (get_or many.seats.items i d).state.items ≡ value_count g)

-- ---- with the play

module _ {G R M : Type 0} (kept : G → Kept R M) where
  -- the play is one of the specification by the layers of the state, and ends so
  pub record PlaysAt (c : Controller G R M) (s : Specification) (st : ManyState) (h : Run) (b : Before) (m : Memory) : Type 0 where
    pub is_of : IsOf kept c s
    pub rounds : st.rounds ≡ rounds_of c
    pub game : st.game ≡ game_of kept c
    pub z : StateSet
    pub stands : StandsFor kept c z st.layers h b m

  -- the seats stand for the sessions, and the play for some play by the same layers
  pub record Serves (many : Many) (c : Controller G R M) (s : Specification) (st : ManyState) : Type 0 where
    pub few : HasFewGoals st.game
    pub room : HasRoomFor st.game many
    pub seats : AreSeatsOf st.game st.layers many.seats.items st.sessions
    pub run : Run
    pub before : Before
    pub memory : Memory
    pub plays : PlaysAt c s st run before memory
