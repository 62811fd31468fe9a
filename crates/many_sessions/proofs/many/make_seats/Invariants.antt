use Rattle.std.proofs.Common.{◌≡◌, ℕ, ◌-◌, ◌<◌, ◌≤◌, length, get_or}
use Rattle.many_sessions.specs.declared.seat.At.TheVariants as at
use Rattle.many_sessions.specs.declared.seat.Seat.{Seat}
use Rattle.many_sessions.proofs.many.make_seats.Given as goal

-- each seat so far is a fresh one
abbrev pub invariant-loop-alloc : goal.invariant-loop-alloc
invariant-loop-alloc l = record {
  within : length l.seats.items ≤ 1024;
  fresh : (i : ℕ) → i < length l.seats.items → (d : Seat) → ((get_or l.seats.items i d).at ≡ at.Fresh) × (length (get_or l.seats.items i d).state.items ≡ l.room);
}

abbrev pub decreases-loop-alloc : goal.decreases-loop-alloc
decreases-loop-alloc l = 1024 - length l.seats.items
