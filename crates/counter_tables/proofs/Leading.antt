-- A walk after one move.
use Rattle.std.proofs.Common.{◌≡◌, ℕ, zero, suc, ◌<◌, ◌≤◌, true, List, [], ◌∷◌, length, slice_get, Option, Some, None, refl, sym, ◌∙◌, ap, subst, arith}
use Rattle.std.proofs.lemmas.List.{length-append}
use Rattle.spec_model.specs.Values.{Assignment}
use Rattle.spec_model.specs.Games.{GameData}
use Rattle.spec_model.specs.Steps.{is_output}
use Rattle.regions.specs.Kept.{Kept}
use Rattle.gr1_law.specs.EnvLayers.{EnvLayerSets}
use Rattle.gr1_law.specs.CounterLaws.{IsLostWith}
use Rattle.gr1_env.specs.Solved.{counts_of}
use Rattle.strategy_parts.specs.Counts.{HasFewGoals}
use Rattle.counterstrategy.specs.declared.counterstrategy.Counterstrategy.{Counterstrategy}
use Rattle.counter_tables.specs.declared.walk.Walk.{Walk}
use Rattle.counter_tables.specs.Seats.{SeatData, seats_of, IsSeatOf, IsAbsent, AllDiffer, IsNumbered}
use Rattle.counter_tables.specs.Walks.{Ending, IsEnding, IsFrom, MovesTo, AreSeats, AreTooMany, HasMetNone, Plays, IsWalk}
use Rattle.counter_tables.specs.Nodes.{IsMore, seat_numbered, Leads}
use Rattle.counter_tables.proofs.Meeting.{still_there, IsCounted, counted, counted_there, counted_counts}
use Rattle.counter_tables.proofs.Ends.{start_exists, seat_once}
use Rattle.counter_tables.proofs.Walked.{moves_end, counted_seats, counted_differ, counted_more, too_many}

pub some_seat : (seats : List SeatData) (n : ℕ) → n < length seats → (v : SeatData) × (slice_get seats n ≡ Some v)
some_seat [] n below = absurd (omega arith)
some_seat (v ∷ seats) zero below = (v, refl)
some_seat (v ∷ seats) (suc n) below = some_seat seats n (omega (arith, below))

-- the seat that is taken is the one with the number
pub seat_is : (seats : List SeatData) (from : Option ℕ) (o : Option SeatData) → (from ≡ None → o ≡ None) → ((n : ℕ) → from ≡ Some n → o ≡ slice_get seats n) → o ≡ seat_numbered seats from
seat_is seats None o none some = none refl
seat_is seats (Some n) o none some = some n refl

-- it stays where more are added
pub numbered_still : (old new : List SeatData) → IsMore old new → (from : Option ℕ) → ((n : ℕ) → from ≡ Some n → n < length old) → seat_numbered old from ≡ seat_numbered new from
numbered_still old new more None inner = refl
numbered_still old new more (Some n) inner =
    let seat = some_seat old n (inner n refl) in
    seat.1 ∙ sym (subst (λ (seats : List SeatData). slice_get seats n ≡ Some seat.0) (sym more.1) (still_there old more.0 n seat.0 seat.1))

pub from_still : (g : GameData) (e : EnvLayerSets) (old new : List SeatData) → IsMore old new → (from : Option ℕ) → ((n : ℕ) → from ≡ Some n → n < length old) → (p : Ending) → IsFrom g e (seat_numbered old from) p → IsFrom g e (seat_numbered new from) p
from_still g e old new more from inner p is = subst (λ (o : Option SeatData). IsFrom g e o p) (numbered_still old new more from inner) is

pub in_longer : (old new : List SeatData) → IsMore old new → (n : ℕ) → n < length old → n < length new
in_longer old new more n below = let long = ap (λ (seats : List SeatData). length seats) more.1 in let both = length-append old more.0 in omega (arith, long, both, below)

module _ {G R M : Type 0} (kept : G → Kept R M) where
  -- nothing is met at first
  pub walk_begins : (c : Counterstrategy G R M) (w : Walk) (g : GameData) (e : EnvLayerSets) → Plays kept c g e → HasFewGoals g → HasMetNone g w → IsWalk kept c w g e
  walk_begins c w g e plays few begins =
      record {
        plays = plays;
        few_goals = few;
        seats = subst (AreSeats g e) (sym begins.none) (λ n v there. absurd (cc (there)));
        differ = subst AllDiffer (sym begins.none) (λ i j v w at_i at_j same. absurd (cc (at_i)));
        few = (let long = ap (λ (seats : List SeatData). length seats) begins.none in omega (arith, long));
        input = begins.input;
        state = begins.state;
      }

  -- the layers by which it plays are those of a lost game
  pub lost_by : (c : Counterstrategy G R M) (g : GameData) (e : EnvLayerSets) → Plays kept c g e → IsLostWith g e (length c.layers.items) (counts_of c.layers.items)
  lost_by c g e plays = subst (λ (d : GameData). IsLostWith d e (length c.layers.items) (counts_of c.layers.items)) plays.game plays.stands.sound.lost

  -- a play ends where the walk goes on from
  pub from_exists : (c : Counterstrategy G R M) (g : GameData) (e : EnvLayerSets) → Plays kept c g e → (seats : List SeatData) → AreSeats g e seats → (from : Option ℕ) → ((n : ℕ) → from ≡ Some n → n < length seats) → (p : Ending) × IsFrom g e (seat_numbered seats from) p
  from_exists c g e plays seats are None inner =
      let start = start_exists g e (length c.layers.items) (counts_of c.layers.items) (lost_by c g e plays) in
      (start.0, (start.1, record { run = start.2; notes = start.3; before = start.4; memory = start.5 }))
  from_exists c g e plays seats are (Some n) inner =
      let seat = some_seat seats n (inner n refl) in
      let ends = are n seat.0 seat.1 in
      (ends.0, subst (λ (o : Option SeatData). IsFrom g e o ends.0) (sym seat.1) (ends.1, ends.2))

  pub walk_from : (c : Counterstrategy G R M) (w : Walk) (g : GameData) (e : EnvLayerSets) → IsWalk kept c w g e → (from : Option ℕ) → ((n : ℕ) → from ≡ Some n → n < length (seats_of w.seats)) → (p : Ending) × IsFrom g e (seat_numbered (seats_of w.seats) from) p
  walk_from c w g e walk from inner = from_exists c g e walk.plays (seats_of w.seats) walk.seats from inner

  module _ (old new : Counterstrategy G R M) (w w' : Walk) (g : GameData) (e : EnvLayerSets) (walk : IsWalk kept old w g e) (plays : Plays kept new g e)
      (input : length w'.room.input.items ≡ length w.room.input.items) (state : length w'.room.state.items ≡ length w.room.state.items) where
    -- no seat is added
    pub walk_same : seats_of w'.seats ≡ seats_of w.seats → IsWalk kept new w' g e
    walk_same same =
        record {
          plays = plays;
          few_goals = walk.few_goals;
          seats = subst (AreSeats g e) (sym same) walk.seats;
          differ = subst AllDiffer (sym same) walk.differ;
          few = (let long = ap (λ (seats : List SeatData). length seats) same in let few = walk.few in omega (arith, long, few));
          input = input ∙ walk.input;
          state = state ∙ walk.state;
        }

    module _ (p : Ending) (is : IsEnding g e p) (y : Assignment) (output : is_output g y ≡ true) (v : SeatData) (moves : MovesTo g e p y v) where
      one_there : (u : SeatData) (n : ℕ) → slice_get (seats_of w.seats) n ≡ Some u → IsSeatOf u v.values v.spot → u ≡ v
      one_there u n there agree =
          let at = walk.seats n u there in
          let to = moves_end g e p is y output v moves in
          seat_once g e (length old.layers.items) (counts_of old.layers.items) (lost_by old g e walk.plays) at.0 to.0 at.1 to.1 u v at.2 to.2 agree

      whole : (n : ℕ) → IsNumbered (seats_of w.seats) (seats_of w'.seats) v n → IsCounted (seats_of w.seats) (seats_of w'.seats) v n
      whole n numbered = counted (seats_of w.seats) (seats_of w'.seats) v n (λ u there. one_there u n there) numbered

      -- one has its number
      pub walk_numbered : (n : ℕ) → IsNumbered (seats_of w.seats) (seats_of w'.seats) v n → length (seats_of w'.seats) ≤ 1024 → IsWalk kept new w' g e
      walk_numbered n numbered few =
          record {
            plays = plays;
            few_goals = walk.few_goals;
            seats = counted_seats g e (seats_of w.seats) (seats_of w'.seats) v n (whole n numbered) walk.seats (moves_end g e p is y output v moves);
            differ = counted_differ g e (seats_of w.seats) (seats_of w'.seats) v n (whole n numbered) walk.differ;
            few = few;
            input = input ∙ walk.input;
            state = state ∙ walk.state;
          }

      pub leads_numbered : (n : ℕ) → IsNumbered (seats_of w.seats) (seats_of w'.seats) v n → Leads g e (seats_of w.seats) (seats_of w'.seats) p y (Some n)
      leads_numbered n numbered = (
        record { seat = v; moves = moves; there = counted_there (seats_of w.seats) (seats_of w'.seats) v n (whole n numbered) },
        counted_more g e (seats_of w.seats) (seats_of w'.seats) v n (whole n numbered),
        counted_counts (seats_of w.seats) (seats_of w'.seats) v n (whole n numbered),
      )

      pub past_most : length (seats_of w.seats) ≡ 1024 → IsAbsent (seats_of w.seats) v.values v.spot → AreTooMany g e
      past_most full absent = too_many g e (seats_of w.seats) v walk.seats walk.differ full absent (moves_end g e p is y output v moves)
