use Rattle.std.proofs.Common.{◌≡◌, ◌+◌, map}
use Rattle.regions.specs.Kept.{weight, meaning_of, IsSameGame}
use Rattle.strategy_parts.specs.Owned.{weight_as}
use Rattle.counterstrategy.specs.Owned.{list_items}
use Rattle.counterstrategy.proofs.kit.spend_lists.Given as goal

-- what is held besides what is left was held at first but for what was given
abbrev pub invariant-loop-moves : goal.invariant-loop-moves
invariant-loop-moves g l =
    let kept = g.G.Regions.kept in
    let first = kept l.fn.g in
    record {
      left : (w : _) → weight (kept l.g) w + weight_as (list_items l.fn.lists.items) (map (meaning_of first) (list_items l.fn.lists.items)) w ≡ weight first w + weight_as (list_items l.lists.items) (map (meaning_of first) (list_items l.lists.items)) w;
      jam : (kept l.g).jam ≡ first.jam;
      same : IsSameGame first (kept l.g);
    }

abbrev pub decreases-loop-moves : goal.decreases-loop-moves
decreases-loop-moves g l = goal.left-loop-moves g l
