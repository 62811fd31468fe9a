use Rattle.strategy_check.specs.Seats.{seats_of}
use Rattle.strategy_check.proofs.Meeting.{IsNotBefore}
use Rattle.strategy_check.proofs.seats.Seats.searched.Given as goal

-- it is at none of the places so far
abbrev pub invariant-loop-n : goal.invariant-loop-n
invariant-loop-n l = IsNotBefore (seats_of l.self) (record { values = l.state; spot = l.spot }) l.n
