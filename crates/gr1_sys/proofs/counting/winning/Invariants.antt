use Rattle.spec_model.specs.Steps.{states_of}
use Rattle.spec_model.specs.Counts.{count_in}
use Rattle.spec_model.proofs.Fixpoints.{IsFalling}
use Rattle.regions.specs.Kept.{MakesRegion, IsSameGame}
use Rattle.gr1_sys.specs.Solution.{following}
use Rattle.gr1_sys.specs.Moment.{IsValueOfZ}
use Rattle.gr1_sys.proofs.counting.winning.Given as goal

-- one region more is held than at first, and its set is a value of Z on the way down
abbrev pub invariant-loop-next : goal.invariant-loop-next
invariant-loop-next g l =
    let kept = g.G.Regions.kept in
    let first = kept l.fn.g in
    let z = (kept l.g).set l.z in
    record {
      made : MakesRegion first (kept l.g) l.z z;
      same : IsSameGame first (kept l.g);
      falling : IsFalling first.game (following first.game) z;
      value : IsValueOfZ first.game z;
    }

-- how many states are left
abbrev pub decreases-loop-next : goal.decreases-loop-next
decreases-loop-next g l = let k = g.G.Regions.kept l.g in count_in (k.set l.z) (states_of k.game)
