use Rattle.std.proofs.Common.{◌≤◌}
use Rattle.core_min.specs.Known.{Guesses}
use Rattle.core_min.proofs.guessing.blocks.Given as goal

abbrev pub invariant-loop-to : goal.invariant-loop-to
invariant-loop-to g l =
    let j = g.J.Judge in
    record {
      guesses : Guesses j.size j.IsWinning j.MayFail j.faults l.fn.judge l.judge l.fn.losing l.losing;
      within : l.to ≤ l.all;
    }

-- the numbers that are in no block so far
abbrev pub decreases-loop-to : goal.decreases-loop-to
decreases-loop-to g l = l.to
