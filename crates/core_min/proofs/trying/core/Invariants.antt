use Rattle.std.proofs.Common.{vec_len, ◌-◌}
use Rattle.core_min.specs.Sets.{IsPartOf}
use Rattle.core_min.specs.Judges.{IsSameJudge}
use Rattle.core_min.specs.Known.{IsKnown}
use Rattle.core_min.proofs.Turns.{IsTrying}
use Rattle.core_min.proofs.trying.core.Given as goal

abbrev pub invariant-loop-at : goal.invariant-loop-at
invariant-loop-at g l =
    let j = g.J.Judge in
    record {
      same : IsSameJudge j.size j.IsWinning j.MayFail j.faults l.fn.judge l.judge;
      trying : IsTrying (j.IsWinning l.fn.judge) l.fn.n l.set.items l.at;
      known : IsKnown j.size j.IsWinning l.judge l.losing;
      inside : IsPartOf l.losing.lost.items l.set.items;
    }

-- the numbers that are still to be tried
abbrev pub decreases-loop-at : goal.decreases-loop-at
decreases-loop-at g l = vec_len l.set - l.at
