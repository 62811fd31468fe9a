use Rattle.core_min.specs.Known.{Guesses}
use Rattle.core_min.proofs.guessing.halves.Given as goal

abbrev pub invariant-loop-long : goal.invariant-loop-long
invariant-loop-long g l =
    let j = g.J.Judge in
    Guesses j.size j.IsWinning j.MayFail j.faults l.fn.judge l.judge l.fn.losing l.losing

-- how long the block is
abbrev pub decreases-loop-long : goal.decreases-loop-long
decreases-loop-long g l = l.long
