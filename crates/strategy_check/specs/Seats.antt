-- The states and the spots in which plays end, each once, in the order in which they are met.
use Rattle.std.specs.Prelude.{◌≡◌, ◌⊎◌, ℕ, suc, ◌<◌, ◌≤◌, ◌&&◌, ◌==◌, Bool, List, [], ◌∷◌, ◌++◌, length, map, slice_get, Option, Some, None}
use Rattle.std.specs.Borrow.{Bor}
use Rattle.spec_model.specs.declared.value.Value.{Value}
use Rattle.controller.specs.declared.spot.Spot.{Spot}
use Rattle.strategy_tables.specs.Tables.{same_values}
use Rattle.strategy_check.specs.declared.seats.Seat.{Seat}
use Rattle.strategy_check.specs.declared.seats.Seats.{Seats}

pub record SeatData : Type 0 where
  pub values : List Value
  pub spot : Spot

abbrev pub seat_data : Seat → SeatData
seat_data v = record { values = v.state.items; spot = v.spot }

abbrev pub seats_of : Seats → List SeatData
seats_of s = map seat_data s.met.items

abbrev pub seat_of : Option (Bor Seat) → Option SeatData
seat_of None = None
seat_of (Some v) = Some (seat_data v.now)

-- whether the seat has this state and this spot
abbrev pub is_seat : SeatData → List Value → Spot → Bool
is_seat v values spot = same_values v.values values && (v.spot.goal == spot.goal) && (v.spot.rank == spot.rank) && (v.spot.index == spot.index)

-- it is at no place
abbrev pub IsAbsent : List SeatData → SeatData → Type 0
IsAbsent seats v = (i : ℕ) → slice_get seats i ≡ Some v → ⊥

-- the place of a seat, or the one past all where it is at none
pub record IsPlace (seats : List SeatData) (v : SeatData) (n : ℕ) : Type 0 where
  pub within : n ≤ length seats
  pub here : n < length seats → slice_get seats n ≡ Some v
  pub absent : length seats ≤ n → IsAbsent seats v

-- no two are the same
abbrev pub AllDiffer : List SeatData → Type 0
AllDiffer seats = (i j : ℕ) (v : SeatData) → slice_get seats i ≡ Some v → slice_get seats j ≡ Some v → i ≡ j

-- a seat that was met has its number, and another is added with the next one
abbrev pub IsNumbered : (old new : List SeatData) → SeatData → ℕ → Type 0
IsNumbered old new v n = ((new ≡ old) × (n < length old) × (slice_get old n ≡ Some v)) ⊎ ((new ≡ old ++ v ∷ []) × (n ≡ length old) × IsAbsent old v)

-- each number is one of those known, or the next one, which is known from then on
abbrev pub CountsUp : (known : ℕ) → List ℕ → (known_then : ℕ) → Type 0
CountsUp known [] end = known ≡ end
CountsUp known (n ∷ ns) end = ((n < known) × CountsUp known ns end) ⊎ ((n ≡ known) × CountsUp (suc known) ns end)
