use Rattle.counter_tables.specs.Seats.{seats_of}
use Rattle.counter_tables.proofs.Meeting.{IsNotBefore}
use Rattle.counter_tables.proofs.seats.Seats.searched.Given as goal

-- it is at none of the places so far
abbrev pub invariant-loop-n : goal.invariant-loop-n
invariant-loop-n l = IsNotBefore (seats_of l.self) l.state l.spot l.n
