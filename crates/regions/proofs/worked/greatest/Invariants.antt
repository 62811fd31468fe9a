use Rattle.spec_model.specs.Steps.{states_of}
use Rattle.spec_model.specs.Sets.{pre_sys}
use Rattle.spec_model.specs.Counts.{count_in}
use Rattle.spec_model.proofs.Fixpoints.{IsFalling}
use Rattle.regions.specs.Kept.{MakesRegion, IsSameGame}
use Rattle.regions.proofs.worked.greatest.Given as goal

-- one region more is held than at first, and its set is on the way down
abbrev pub invariant-loop-next : goal.invariant-loop-next
invariant-loop-next g l =
    let kept = g.G.Regions.kept in
    let z = (kept l.g).set l.z in
    record {
      made : MakesRegion (kept l.fn.g) (kept l.g) l.z z;
      same : IsSameGame (kept l.fn.g) (kept l.g);
      falling : IsFalling (kept l.g).game (pre_sys (kept l.g).game) z;
    }

-- how many states are left
abbrev pub decreases-loop-next : goal.decreases-loop-next
decreases-loop-next g l = let k = g.G.Regions.kept l.g in count_in (k.set l.z) (states_of k.game)
