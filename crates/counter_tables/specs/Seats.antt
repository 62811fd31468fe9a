-- The states and the spots in which plays end, each once, in the order in which they are met, with the inputs that are given then.
use Rattle.std.specs.Prelude.{◌≡◌, ◌⊎◌, ℕ, suc, ◌<◌, ◌≤◌, ◌&&◌, ◌==◌, Bool, List, [], ◌∷◌, ◌++◌, length, map, slice_get, Option, Some, None}
use Rattle.std.specs.Borrow.{Bor}
use Rattle.spec_model.specs.declared.value.Value.{Value}
use Rattle.spec_model.specs.Values.{Assignment}
use Rattle.counterstrategy.specs.declared.spot.EnvSpot.{EnvSpot}
use Rattle.strategy_tables.specs.Tables.{same_values}
use Rattle.counter_tables.specs.declared.seats.Seat.{Seat}
use Rattle.counter_tables.specs.declared.seats.Seats.{Seats}

pub record SeatData : Type 0 where
  pub values : List Value
  pub spot : EnvSpot
  pub reply : Assignment

abbrev pub seat_data : Seat → SeatData
seat_data v = record { values = v.state.items; spot = v.spot; reply = v.reply.items }

abbrev pub seats_of : Seats → List SeatData
seats_of s = map seat_data s.met.items

abbrev pub seat_of : Option (Bor Seat) → Option SeatData
seat_of None = None
seat_of (Some v) = Some (seat_data v.now)

abbrev pub is_spot : EnvSpot → EnvSpot → Bool
is_spot a b = (a.layer == b.layer) && ((a.goal == b.goal) && ((a.asm == b.asm) && (a.rank == b.rank)))

-- whether the seat has this state and this spot
abbrev pub is_seat : SeatData → List Value → EnvSpot → Bool
is_seat v values spot = same_values v.values values && is_spot v.spot spot

-- it has them
pub record IsSeatOf (v : SeatData) (values : List Value) (spot : EnvSpot) : Type 0 where
  pub values_are : v.values ≡ values
  pub spot_is : v.spot ≡ spot

-- there is none with this state and this spot
abbrev pub IsAbsent : List SeatData → List Value → EnvSpot → Type 0
IsAbsent seats values spot = (i : ℕ) (v : SeatData) → slice_get seats i ≡ Some v → IsSeatOf v values spot → ⊥

-- the place of one with this state and this spot, or the one past all where there is none
pub record IsPlace (seats : List SeatData) (values : List Value) (spot : EnvSpot) (n : ℕ) : Type 0 where
  pub within : n ≤ length seats
  pub here : n < length seats → (v : SeatData) × (slice_get seats n ≡ Some v) × IsSeatOf v values spot
  pub absent : length seats ≤ n → IsAbsent seats values spot

-- no two agree in state and spot
abbrev pub AllDiffer : List SeatData → Type 0
AllDiffer seats = (i j : ℕ) (v w : SeatData) → slice_get seats i ≡ Some v → slice_get seats j ≡ Some w → IsSeatOf v w.values w.spot → i ≡ j

-- One that agrees with it was met, and has the number; or there was none, and it is added with the next number.
abbrev pub IsNumbered : (old new : List SeatData) → SeatData → ℕ → Type 0
IsNumbered old new v n =
    ((new ≡ old) × (u : SeatData) × (slice_get old n ≡ Some u) × IsSeatOf u v.values v.spot)
    ⊎ ((new ≡ old ++ v ∷ []) × (n ≡ length old) × IsAbsent old v.values v.spot)

-- each number is one of those known, or the next one, which is known from then on
abbrev pub CountsUp : (known : ℕ) → List ℕ → (known_then : ℕ) → Type 0
CountsUp known [] end = known ≡ end
CountsUp known (n ∷ ns) end = ((n < known) × CountsUp known ns end) ⊎ ((n ≡ known) × CountsUp (suc known) ns end)
