use Rattle.std.proofs.Common.{◌-◌, length}
use Rattle.spec_model.specs.Steps.{states_of}
use Rattle.spec_model.specs.Counts.{count_in}
use Rattle.regions.specs.Kept.{IsSameGame}
use Rattle.gr1_env.specs.Held.{last_of}
use Rattle.gr1_env.proofs.Climbing.{Climbs}
use Rattle.gr1_env.proofs.delays.delays.Given as goal

-- the first iterates
abbrev pub invariant-loop-more : goal.invariant-loop-more
invariant-loop-more g l =
    let kept = g.G.Regions.kept in
    let first = kept l.fn.g in
    record {
      climbs : Climbs first.game first (kept l.g) l.none (first.set l.cover) (first.set l.asm) l.rs.items;
      same : IsSameGame first (kept l.g);
    }

-- how many states are not in the last iterate
abbrev pub decreases-loop-more : goal.decreases-loop-more
decreases-loop-more g l = let k = g.G.Regions.kept l.g in length (states_of k.game) - count_in (k.set (last_of l.none l.rs.items)) (states_of k.game)
