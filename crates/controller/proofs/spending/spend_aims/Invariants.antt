use Rattle.std.proofs.Common.{◌≡◌, ◌+◌, map}
use Rattle.regions.specs.Kept.{weight, meaning_of, IsSameGame}
use Rattle.strategy_parts.specs.Owned.{weight_as}
use Rattle.controller.specs.Owned.{aims_items}
use Rattle.controller.proofs.spending.spend_aims.Given as goal

-- what is held besides what is left was held at first but for what was given
abbrev pub invariant-loop-a : goal.invariant-loop-a
invariant-loop-a g l =
    let kept = g.G.Regions.kept in
    let first = kept l.fn.g in
    record {
      left : (w : _) → weight (kept l.g) w + weight_as (aims_items l.fn.aims.items) (map (meaning_of first) (aims_items l.fn.aims.items)) w ≡ weight first w + weight_as (aims_items l.aims.items) (map (meaning_of first) (aims_items l.aims.items)) w;
      jam : (kept l.g).jam ≡ first.jam;
      same : IsSameGame first (kept l.g);
    }

abbrev pub decreases-loop-a : goal.decreases-loop-a
decreases-loop-a g l = goal.left-loop-a g l
