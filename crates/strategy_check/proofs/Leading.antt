-- A walk after one move.
use Rattle.std.proofs.Common.{◌≡◌, ℕ, zero, suc, ◌<◌, ◌≤◌, true, List, [], ◌∷◌, length, slice_get, Option, Some, None, refl, sym, ◌∙◌, ap, subst, arith}
use Rattle.spec_model.specs.Values.{Assignment}
use Rattle.spec_model.specs.Rules.{Run}
use Rattle.spec_model.specs.Games.{GameData}
use Rattle.spec_model.specs.Steps.{Before, is_input}
use Rattle.spec_model.specs.Sets.{StateSet}
use Rattle.regions.specs.Kept.{Kept}
use Rattle.gr1_law.specs.Layers.{LayerSets}
use Rattle.gr1_law.specs.Choice.{Memory, first_memory}
use Rattle.strategy_parts.specs.Counts.{HasFewGoals}
use Rattle.controller.specs.declared.controller.Controller.{Controller}
use Rattle.strategy_check.specs.declared.walk.Walk.{Walk}
use Rattle.strategy_check.specs.Seats.{SeatData, seats_of, IsAbsent, AllDiffer, IsNumbered}
use Rattle.strategy_check.specs.Walks.{IsFrom, MovesTo, AreSeats, AreTooMany, HasMetNone, Plays, IsWalk}
use Rattle.strategy_check.specs.Nodes.{IsMore, seat_numbered, Leads}
use Rattle.strategy_check.proofs.Meeting.{still_there, numbered_there, numbered_counts}
use Rattle.strategy_check.proofs.Walked.{moves_end, numbered_seats, numbered_differ, numbered_more, too_many}

pub some_seat : (seats : List SeatData) (n : ℕ) → n < length seats → (v : SeatData) × (slice_get seats n ≡ Some v)
some_seat [] n below = absurd (omega arith)
some_seat (v ∷ seats) zero below = (v, refl)
some_seat (v ∷ seats) (suc n) below = some_seat seats n (omega (arith, below))

-- a play ends where the walk goes on from
pub from_exists : (g : GameData) (l : LayerSets) (seats : List SeatData) → AreSeats g l seats → (from : Option ℕ) → ((n : ℕ) → from ≡ Some n → n < length seats) → (h : Run) × (b : Before) × (m : Memory) × IsFrom g l (seat_numbered seats from) h b m
from_exists g l seats are None inner = ([], None, first_memory, (refl, refl, refl))
from_exists g l seats are (Some n) inner =
    let seat = some_seat seats n (inner n refl) in
    let ends = are n seat.0 seat.1 in
    (ends.0, Some ends.1, ends.2, subst (λ (o : Option SeatData). IsFrom g l o ends.0 (Some ends.1) ends.2) (sym seat.1) (ends.1, refl, ends.3))

-- the seat that is taken is the one with the number
pub seat_is : (seats : List SeatData) (from : Option ℕ) (o : Option SeatData) → (from ≡ None → o ≡ None) → ((n : ℕ) → from ≡ Some n → o ≡ slice_get seats n) → o ≡ seat_numbered seats from
seat_is seats None o none some = none refl
seat_is seats (Some n) o none some = some n refl

-- it stays where more are added
pub numbered_still : (old new : List SeatData) → IsMore old new → (from : Option ℕ) → ((n : ℕ) → from ≡ Some n → n < length old) → seat_numbered old from ≡ seat_numbered new from
numbered_still old new more None inner = refl
numbered_still old new more (Some n) inner =
    let seat = some_seat old n (inner n refl) in
    seat.1 ∙ sym (subst (λ (seats : List SeatData). slice_get seats n ≡ Some seat.0) (sym more.1) (still_there old more.0 n seat.0 seat.1))

module _ {G R M : Type 0} (kept : G → Kept R M) (old new : Controller G R M) (w w' : Walk) (g : GameData) (z : StateSet) (l : LayerSets) (walk : IsWalk kept old w g z l) (plays : Plays kept new g z l)
    (output : length w'.room.output.items ≡ length w.room.output.items) (state : length w'.room.state.items ≡ length w.room.state.items) where
  -- no seat is added
  pub walk_same : seats_of w'.seats ≡ seats_of w.seats → IsWalk kept new w' g z l
  walk_same same =
      record {
        plays = plays;
        few_goals = walk.few_goals;
        seats = subst (AreSeats g l) (sym same) walk.seats;
        differ = subst AllDiffer (sym same) walk.differ;
        few = (let long = ap (λ (seats : List SeatData). length seats) same in let few = walk.few in omega (arith, long, few));
        output = output ∙ walk.output;
        state = state ∙ walk.state;
      }

  module _ (from : Option SeatData) (h : Run) (b : Before) (m : Memory) (is : IsFrom g l from h b m) (x : Assignment) (input : is_input g x ≡ true) (v : SeatData) (moves : MovesTo g l b m x v) where
    -- one has its number
    pub walk_numbered : (n : ℕ) → IsNumbered (seats_of w.seats) (seats_of w'.seats) v n → length (seats_of w'.seats) ≤ 1024 → IsWalk kept new w' g z l
    walk_numbered n numbered few =
        let ends = moves_end g l from h b m is x input v moves in
        record {
          plays = plays;
          few_goals = walk.few_goals;
          seats = numbered_seats g l (seats_of w.seats) (seats_of w'.seats) v n numbered walk.seats ends.0 ends.1 ends.2 ends.3;
          differ = numbered_differ g l (seats_of w.seats) (seats_of w'.seats) v n numbered walk.differ;
          few = few;
          output = output ∙ walk.output;
          state = state ∙ walk.state;
        }

    pub leads_numbered : (n : ℕ) → IsNumbered (seats_of w.seats) (seats_of w'.seats) v n → Leads g l (seats_of w.seats) (seats_of w'.seats) b m x (Some n)
    leads_numbered n numbered = (
      record { seat = v; moves = moves; there = numbered_there (seats_of w.seats) (seats_of w'.seats) v n numbered },
      numbered_more g l (seats_of w.seats) (seats_of w'.seats) v n numbered,
      numbered_counts (seats_of w.seats) (seats_of w'.seats) v n numbered,
    )

    pub past_most : length (seats_of w.seats) ≡ 1024 → IsAbsent (seats_of w.seats) v → AreTooMany g l
    past_most full absent =
        let ends = moves_end g l from h b m is x input v moves in
        too_many g l (seats_of w.seats) v walk.seats walk.differ full absent ends.0 ends.1 ends.2 ends.3

-- a walk at its beginning
pub walk_begins : {G R M : Type 0} (kept : G → Kept R M) (c : Controller G R M) (w : Walk) (g : GameData) (z : StateSet) (l : LayerSets) → Plays kept c g z l → HasFewGoals g → HasMetNone g w → IsWalk kept c w g z l
walk_begins kept c w g z l plays few begins =
    record {
      plays = plays;
      few_goals = few;
      seats = subst (AreSeats g l) (sym begins.none) (λ n v there. absurd (cc (there)));
      differ = subst AllDiffer (sym begins.none) (λ i j v at_i at_j. absurd (cc (at_i)));
      few = (let long = ap (λ (seats : List SeatData). length seats) begins.none in omega (arith, long));
      output = begins.output;
      state = begins.state;
    }
