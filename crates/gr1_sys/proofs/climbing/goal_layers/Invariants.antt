use Rattle.std.proofs.Common.{◌≡◌, ◌-◌, length}
use Rattle.spec_model.specs.Steps.{states_of}
use Rattle.spec_model.specs.Sets.{StateSet, both, pre_sys}
use Rattle.spec_model.specs.Counts.{count_in}
use Rattle.regions.specs.Kept.{IsSameGame}
use Rattle.gr1_law.specs.Layers.{goal_set}
use Rattle.gr1_sys.specs.Held.{Climbs, last_region}
use Rattle.gr1_sys.proofs.climbing.goal_layers.Given as goal

-- the first layers
abbrev pub invariant-loop-more : goal.invariant-loop-more
invariant-loop-more g l =
    let kept = g.G.Regions.kept in
    let first = kept l.fn.g in
    record {
      climbs : (z : StateSet) (j : _) → first.set l.reach ≡ both (goal_set first.game j) (pre_sys first.game z) → Climbs first.game first (kept l.g) l.given.none z j l.layers.items;
      same : IsSameGame first (kept l.g);
    }

-- how many states are not in the last layer
abbrev pub decreases-loop-more : goal.decreases-loop-more
decreases-loop-more g l = let k = g.G.Regions.kept l.g in length (states_of k.game) - count_in (k.set (last_region l.given.none l.layers.items)) (states_of k.game)
