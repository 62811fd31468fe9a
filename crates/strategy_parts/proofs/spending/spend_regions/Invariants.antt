use Rattle.std.proofs.Common.{◌≡◌, ◌+◌, map}
use Rattle.regions.specs.Kept.{weight, meaning_of, IsSameGame}
use Rattle.strategy_parts.specs.Owned.{weight_as, region_items}
use Rattle.strategy_parts.proofs.spending.spend_regions.Given as goal

-- what is held besides what is left was held at first but for what was given
abbrev pub invariant-loop-r : goal.invariant-loop-r
invariant-loop-r g l =
    let kept = g.G.Regions.kept in
    let first = kept l.fn.g in
    record {
      left : (w : _) → weight (kept l.g) w + weight_as (region_items l.fn.rs.items) (map (meaning_of first) (region_items l.fn.rs.items)) w ≡ weight first w + weight_as (region_items l.rs.items) (map (meaning_of first) (region_items l.rs.items)) w;
      jam : (kept l.g).jam ≡ first.jam;
      same : IsSameGame first (kept l.g);
    }

abbrev pub decreases-loop-r : goal.decreases-loop-r
decreases-loop-r g l = goal.left-loop-r g l
