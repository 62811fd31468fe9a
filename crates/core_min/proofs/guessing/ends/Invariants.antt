use Rattle.std.proofs.Common.{◌-◌, ◌≤◌, min}
use Rattle.core_min.specs.Known.{Guesses}
use Rattle.core_min.proofs.guessing.ends.Given as goal

abbrev pub invariant-loop-judge : goal.invariant-loop-judge
invariant-loop-judge g l =
    let j = g.J.Judge in
    record {
      guesses : Guesses j.size j.IsWinning j.MayFail j.faults l.fn.judge l.judge l.fn.losing l.losing;
      some : min l.rest 1 ≤ l.last;
      within : l.last ≤ l.rest;
    }

-- the numbers that aren't asked about
abbrev pub decreases-loop-judge : goal.decreases-loop-judge
decreases-loop-judge g l = l.rest - l.last
