use Rattle.std.proofs.Common.{◌≡◌, ◌+◌, map}
use Rattle.regions.specs.Kept.{weight, IsSameGame}
use Rattle.gr1_sys.specs.Held.{weight_as}
use Rattle.gr1_env.specs.Held.{goal_regions}
use Rattle.gr1_env.proofs.spending.spend_holds.Given as goal

-- what is held besides what is left was held at first but for what was given
abbrev pub invariant-loop-e : goal.invariant-loop-e
invariant-loop-e g l =
    let kept = g.G.Regions.kept in
    let first = kept l.fn.g in
    record {
      left : (w : _) → weight (kept l.g) w + weight_as (goal_regions l.fn.goals.items) (map first.set (goal_regions l.fn.goals.items)) w ≡ weight first w + weight_as (goal_regions l.goals.items) (map first.set (goal_regions l.goals.items)) w;
      jam : (kept l.g).jam ≡ first.jam;
      same : IsSameGame first (kept l.g);
    }

abbrev pub decreases-loop-e : goal.decreases-loop-e
decreases-loop-e g l = goal.left-loop-e g l
