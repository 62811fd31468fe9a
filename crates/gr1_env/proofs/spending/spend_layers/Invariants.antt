use Rattle.std.proofs.Common.{◌≡◌, ◌+◌, map}
use Rattle.regions.specs.Kept.{weight, IsSameGame}
use Rattle.gr1_sys.specs.Held.{weight_as}
use Rattle.gr1_env.specs.Held.{all_regions}
use Rattle.gr1_env.proofs.spending.spend_layers.Given as goal

-- what is held besides what is left was held at first but for what was given
abbrev pub invariant-loop-l : goal.invariant-loop-l
invariant-loop-l g l =
    let kept = g.G.Regions.kept in
    let first = kept l.fn.g in
    record {
      left : (w : _) → weight (kept l.g) w + weight_as (all_regions l.fn.layers.items) (map first.set (all_regions l.fn.layers.items)) w ≡ weight first w + weight_as (all_regions l.layers.items) (map first.set (all_regions l.layers.items)) w;
      jam : (kept l.g).jam ≡ first.jam;
      same : IsSameGame first (kept l.g);
    }

abbrev pub decreases-loop-l : goal.decreases-loop-l
decreases-loop-l g l = goal.left-loop-l g l
