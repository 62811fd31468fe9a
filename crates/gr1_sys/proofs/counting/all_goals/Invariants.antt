use Rattle.std.proofs.Common.{◌≡◌}
use Rattle.spec_model.specs.Sets.{StateSet, pre_sys}
use Rattle.regions.specs.Kept.{MakesRegion, IsSameGame}
use Rattle.gr1_sys.specs.Solution.{meet}
use Rattle.gr1_sys.specs.Counted.{last_layer, HaveRanks}
use Rattle.gr1_sys.proofs.counting.all_goals.Given as goal

-- the states in the last layers of the goals so far, and the greatest ranks of those
abbrev pub invariant-loop-goal : goal.invariant-loop-goal
invariant-loop-goal g l =
    let kept = g.G.Regions.kept in
    let first = kept l.fn.g in
    record {
      made : (z : StateSet) → first.set l.ready ≡ pre_sys first.game z → MakesRegion first (kept l.g) l.met (meet first.game (last_layer first.game z) l.goal-index);
      ranks : (z : StateSet) → first.set l.ready ≡ pre_sys first.game z → HaveRanks first.game z l.goal-index l.k;
      same : IsSameGame first (kept l.g);
    }
