-- The seats and the play as what serves the sessions.
use Rattle.std.proofs.Common.{◌≡◌, ℕ, ◌+◌, ◌-◌, ◌<◌, ◌≤◌, true, List, [], length, get_or, Option, Some, None, refl, sym, ap, subst, ◌∙◌, arith}
use Rattle.std.proofs.lemmas.List.{length-map}
use Rattle.spec_model.specs.Values.{DomainData}
use Rattle.spec_model.specs.Syntax.{VariableData, Specification}
use Rattle.spec_model.specs.Moves.{is_env, domains_of}
use Rattle.spec_model.specs.Rules.{Run}
use Rattle.spec_model.specs.Games.{GameData}
use Rattle.spec_model.specs.Agreement.{Agrees}
use Rattle.spec_model.specs.Steps.{Before}
use Rattle.spec_model.specs.Sets.{StateSet}
use Rattle.regions.specs.Kept.{Kept}
use Rattle.regions.specs.Rules.{input_count}
use Rattle.gr1_law.specs.Layers.{LayerSets}
use Rattle.gr1_law.specs.Choice.{Memory, nothing, first_memory}
use Rattle.gr1_law.specs.Specifications.{ChosenPlayKeepsSpecification}
use Rattle.gr1_law.proofs.Carrying.{play_keeps}
use Rattle.gr1_sys.specs.Held.{ranks_of}
use Rattle.strategy_parts.specs.Counts.{HasFewGoals}
use Rattle.controller.specs.declared.controller.Controller.{Controller}
use Rattle.controller.specs.Objects.{game_of, StandsFor}
use Rattle.session_lines.specs.Shown.{inputs_of}
use Rattle.session.specs.Strategies.{rounds_of}
use Rattle.session.proofs.RunTalks.{input_domains_are}
use Rattle.many_sessions.specs.declared.many.Many.{Many}
use Rattle.many_sessions.specs.declared.seat.Seat.{Seat}
use Rattle.many_sessions.specs.declared.seat.At.{At}
use Rattle.many_sessions.specs.declared.seat.At.TheVariants as at
use Rattle.many_sessions.specs.Numbered.{IsSession}
use Rattle.many_sessions.specs.Solo.{Session, alive, over, unplayed}
use Rattle.many_sessions.specs.Talks.{IsKeptPlay}
use Rattle.many_sessions.specs.Terms.{ManyState, with_session, unbegun}
use Rattle.many_sessions.specs.Seats.{StandsAt, IsSeatOf, AreSeatsOf, HasRoomFor, KeepsMoves, KeepsSeats, IsNewFor, PlaysAt, Serves}

-- ---- one seat

-- a seat that is over stands for a session that is
pub over_at : (g : GameData) (l : LayerSets) (seat : Seat) (t : Session) → IsSeatOf g l seat t → seat.at ≡ at.Over → (h : Run) × (t ≡ over h)
over_at g l seat (over h) is same = (h, refl)
over_at g l seat (alive h b m) is same = absurd (subst (λ (a : At). StandsAt g l a seat.state.items seat.spot (alive h b m)) same is.stands)

pub fresh_at : (g : GameData) (l : LayerSets) (seat : Seat) (t : Session) → IsSeatOf g l seat t → seat.at ≡ at.Fresh → (h : Run) × (b : Before) × (m : Memory) × (t ≡ alive h b m)
fresh_at g l seat (alive h b m) is same = (h, b, m, refl)
fresh_at g l seat (over h) is same = absurd (subst (λ (a : At). StandsAt g l a seat.state.items seat.spot (over h)) same is.stands)

pub playing_at : (g : GameData) (l : LayerSets) (seat : Seat) (t : Session) → IsSeatOf g l seat t → seat.at ≡ at.Playing → (h : Run) × (b : Before) × (m : Memory) × (t ≡ alive h b m)
playing_at g l seat (alive h b m) is same = (h, b, m, refl)
playing_at g l seat (over h) is same = absurd (subst (λ (a : At). StandsAt g l a seat.state.items seat.spot (over h)) same is.stands)

-- the seat of a session, by its number
pub seat_of : (g : GameData) (l : LayerSets) (seats : List Seat) (sessions : ℕ → Session) (n : ℕ) (d : Seat) → AreSeatsOf g l seats sessions → 1 ≤ n → n ≤ length seats → IsSeatOf g l (get_or seats (n - 1) d) (sessions n)
seat_of g l seats sessions n d are some few =
    let same : (n - 1) + 1 ≡ n = omega (arith, some) in
    subst (λ (k : ℕ). IsSeatOf g l (get_or seats (n - 1) d) (sessions k)) same (are (n - 1) (omega (arith, some, few)) d)

-- likewise where it was looked up
pub seat_at : (many : Many) (g0 : GameData) → HasRoomFor g0 many → (g : GameData) (l : LayerSets) (sessions : ℕ → Session) (n : ℕ) (seat : Seat) → IsSession n → AreSeatsOf g l many.seats.items sessions →
    seat ≡ get_or many.seats.items (n - 1) seat → IsSeatOf g l seat (sessions n)
seat_at many g0 room g l sessions n seat session are is =
    subst (λ (u : Seat). IsSeatOf g l u (sessions n)) (sym is) (seat_of g l many.seats.items sessions n seat are session.0 (omega (arith, session.1, room.seats)))

-- ---- room

-- an input has as many values as the game counts
pub inputs_counted : (s : Specification) (g : GameData) → Agrees s g → length (inputs_of s) ≡ input_count g
inputs_counted s g agrees =
    let ds = ap (λ (ds : List DomainData). length ds) (input_domains_are s) in
    let of_domains = length-map (inputs_of s) (λ (v : VariableData). v.domain) in
    let game = ap (λ (vs : List VariableData). length (domains_of is_env vs)) agrees.variables in
    omega (arith, ds, of_domains, game)

pub room_moved : (g : GameData) (old new : Many) → HasRoomFor g old → KeepsMoves old new → HasRoomFor g new
room_moved g old new room keeps =
    record {
      seats = keeps.seats ∙ room.seats;
      input = ap (λ v. length v.items) keeps.input ∙ room.input;
      output = ap (λ v. length v.items) keeps.output ∙ room.output;
    }

pub room_seated : (g : GameData) (old new : Many) → HasRoomFor g old → KeepsSeats old new → HasRoomFor g new
room_seated g old new room keeps =
    record {
      seats = ap (λ v. length v.items) keeps.seats ∙ room.seats;
      input = keeps.input ∙ room.input;
      output = keeps.output ∙ room.output;
    }

-- ---- with the play

module _ {G R M : Type 0} (kept : G → Kept R M) (many : Many) (c : Controller G R M) (s : Specification) (st : ManyState) where
  -- it is the play of each state that differs in the sessions alone
  abbrev pub plays_with : (h : Run) (b : Before) (m : Memory) → PlaysAt kept c s st h b m → (n : ℕ) (t : Session) → PlaysAt kept c s (with_session st n t) h b m
  plays_with h b m at n t = record { is_of = at.is_of; rounds = at.rounds; game = at.game; z = at.z; stands = at.stands }

  -- the empty play is kept
  pub nothing_kept : Serves kept many c s st → IsKeptPlay s st.rounds []
  nothing_kept serves =
      let at = serves.plays in
      let sound = at.stands.sound in
      let g = game_of kept c in
      let tells = subst (λ (k : ℕ). ChosenPlayKeepsSpecification s g st.layers k [] None first_memory) (sym at.rounds)
      (play_keeps s g at.is_of sound.made at.z st.layers (ranks_of c.layers.items) (record { winning = sound.won; greatest = sound.ranks; forced = sound.starts }) [] None first_memory nothing) in
      record { legal = tells.legal; kept = tells.kept }

  -- one session changes, where the seats and the play are those of the others still
  pub serves_with : (h : Run) (b : Before) (m : Memory) → PlaysAt kept c s st h b m → (new : Many) → HasFewGoals st.game → HasRoomFor st.game new → (n : ℕ) (t : Session) →
      AreSeatsOf st.game st.layers new.seats.items (with_session st n t).sessions → Serves kept new c s (with_session st n t)
  serves_with h b m at new few room n t seats =
      record {
        few = few;
        room = room;
        seats = seats;
        run = h;
        before = b;
        memory = m;
        plays = plays_with h b m at n t;
      }

  -- where the seats stay
  pub serves_read : Serves kept many c s st → (new : Many) → KeepsSeats many new → Serves kept new c s st
  serves_read serves new keeps =
      record {
        few = serves.few;
        room = room_seated st.game many new serves.room keeps;
        seats = subst (λ (seats : List Seat). AreSeatsOf st.game st.layers seats st.sessions) (sym (ap (λ v. v.items) keeps.seats)) serves.seats;
        run = serves.run;
        before = serves.before;
        memory = serves.memory;
        plays = serves.plays;
      }

-- before the first line
pub serves_first : {G R M : Type 0} (kept : G → Kept R M) (many : Many) (c : Controller G R M) (s : Specification) (z : StateSet) (l : LayerSets) (h : Run) (b : Before) (m : Memory) → Agrees s (game_of kept c) → HasFewGoals (game_of kept c) →
    IsNewFor (game_of kept c) many → StandsFor kept c z l h b m → Serves kept many c s (unbegun (game_of kept c) l (rounds_of c))
serves_first kept many c s z l h b m is_of few new stands =
    record {
      few = few;
      room = new.room;
      seats = λ i below d.
          let f = new.fresh i below d in
          let seat = get_or many.seats.items i d in
          record {
            room = f.1;
            stands = subst (λ (a : At). StandsAt (game_of kept c) l a seat.state.items seat.spot unplayed) (sym f.0) (refl, refl, refl);
          };
      run = h;
      before = b;
      memory = m;
      plays = record { is_of = is_of; rounds = refl; game = refl; z = z; stands = stands };
    }
