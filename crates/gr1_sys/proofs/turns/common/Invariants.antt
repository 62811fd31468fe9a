use Rattle.regions.specs.Kept.{MakesRegion, IsSameGame}
use Rattle.gr1_sys.specs.Solution.{meet}
use Rattle.gr1_sys.specs.Held.{last_set}
use Rattle.gr1_sys.proofs.turns.common.Given as goal

-- the states in the last layers of the goals so far
abbrev pub invariant-loop-layers : goal.invariant-loop-layers
invariant-loop-layers g l =
    let kept = g.G.Regions.kept in
    let first = kept l.fn.g in
    record {
      made : MakesRegion first (kept l.g) l.met (meet first.game (last_set first l.none l.goals) l.layers-index);
      same : IsSameGame first (kept l.g);
    }
