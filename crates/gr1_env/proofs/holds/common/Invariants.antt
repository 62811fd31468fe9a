use Rattle.regions.specs.Kept.{MakesRegion, IsSameGame}
use Rattle.gr1_sys.specs.Solution.{meet}
use Rattle.gr1_env.specs.Held.{last_set}
use Rattle.gr1_env.proofs.holds.common.Given as goal

-- the states in the last iterates for the assumptions so far
abbrev pub invariant-loop-rs : goal.invariant-loop-rs
invariant-loop-rs g l =
    let kept = g.G.Regions.kept in
    let first = kept l.fn.g in
    record {
      made : MakesRegion first (kept l.g) l.met (meet first.game (last_set first l.none l.xs) l.rs-index);
      same : IsSameGame first (kept l.g);
    }
