use Rattle.std.proofs.Common.{◌≡◌, ◌+◌, map}
use Rattle.regions.specs.Kept.{weight, IsSameGame}
use Rattle.gr1_sys.specs.Held.{weight_as, all_regions}
use Rattle.gr1_sys.proofs.spending.spend_goals.Given as goal

-- what is held besides what is left was held at first but for what was given
abbrev pub invariant-loop-ls : goal.invariant-loop-ls
invariant-loop-ls g l =
    let kept = g.G.Regions.kept in
    let first = kept l.fn.g in
    record {
      left : (w : _) → weight (kept l.g) w + weight_as (all_regions l.fn.goals.items) (map first.set (all_regions l.fn.goals.items)) w ≡ weight first w + weight_as (all_regions l.goals.items) (map first.set (all_regions l.goals.items)) w;
      jam : (kept l.g).jam ≡ first.jam;
      same : IsSameGame first (kept l.g);
    }

abbrev pub decreases-loop-ls : goal.decreases-loop-ls
decreases-loop-ls g l = goal.left-loop-ls g l
