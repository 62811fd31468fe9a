use Rattle.std.proofs.Common.{◌≡◌, ◌+◌, map}
use Rattle.regions.specs.Kept.{weight, meaning_of, IsSameGame}
use Rattle.strategy_parts.specs.Owned.{weight_as}
use Rattle.controller.specs.Owned.{all_aims_items}
use Rattle.controller.proofs.spending.spend_all_aims.Given as goal

-- what is held besides what is left was held at first but for what was given
abbrev pub invariant-loop-aims : goal.invariant-loop-aims
invariant-loop-aims g l =
    let kept = g.G.Regions.kept in
    let first = kept l.fn.g in
    record {
      left : (w : _) → weight (kept l.g) w + weight_as (all_aims_items l.fn.goals.items) (map (meaning_of first) (all_aims_items l.fn.goals.items)) w ≡ weight first w + weight_as (all_aims_items l.goals.items) (map (meaning_of first) (all_aims_items l.goals.items)) w;
      jam : (kept l.g).jam ≡ first.jam;
      same : IsSameGame first (kept l.g);
    }

abbrev pub decreases-loop-aims : goal.decreases-loop-aims
decreases-loop-aims g l = goal.left-loop-aims g l
