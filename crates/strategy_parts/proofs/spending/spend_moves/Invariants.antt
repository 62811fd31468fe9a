use Rattle.std.proofs.Common.{◌≡◌, ◌+◌, map}
use Rattle.regions.specs.Kept.{weight, meaning_of, IsSameGame}
use Rattle.strategy_parts.specs.Owned.{weight_as, move_items}
use Rattle.strategy_parts.proofs.spending.spend_moves.Given as goal

-- what is held besides what is left was held at first but for what was given
abbrev pub invariant-loop-m : goal.invariant-loop-m
invariant-loop-m g l =
    let kept = g.G.Regions.kept in
    let first = kept l.fn.g in
    record {
      left : (w : _) → weight (kept l.g) w + weight_as (move_items l.fn.moves.items) (map (meaning_of first) (move_items l.fn.moves.items)) w ≡ weight first w + weight_as (move_items l.moves.items) (map (meaning_of first) (move_items l.moves.items)) w;
      jam : (kept l.g).jam ≡ first.jam;
      same : IsSameGame first (kept l.g);
    }

abbrev pub decreases-loop-m : goal.decreases-loop-m
decreases-loop-m g l = goal.left-loop-m g l
