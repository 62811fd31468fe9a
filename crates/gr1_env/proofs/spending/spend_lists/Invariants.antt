use Rattle.std.proofs.Common.{◌≡◌, ◌+◌, map}
use Rattle.regions.specs.Kept.{weight, IsSameGame}
use Rattle.gr1_sys.specs.Held.{weight_as}
use Rattle.gr1_env.specs.Held.{list_regions}
use Rattle.gr1_env.proofs.spending.spend_lists.Given as goal

-- what is held besides what is left was held at first but for what was given
abbrev pub invariant-loop-rs : goal.invariant-loop-rs
invariant-loop-rs g l =
    let kept = g.G.Regions.kept in
    let first = kept l.fn.g in
    record {
      left : (w : _) → weight (kept l.g) w + weight_as (list_regions l.fn.xs.items) (map first.set (list_regions l.fn.xs.items)) w ≡ weight first w + weight_as (list_regions l.xs.items) (map first.set (list_regions l.xs.items)) w;
      jam : (kept l.g).jam ≡ first.jam;
      same : IsSameGame first (kept l.g);
    }

abbrev pub decreases-loop-rs : goal.decreases-loop-rs
decreases-loop-rs g l = goal.left-loop-rs g l
