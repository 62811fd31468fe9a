use Rattle.std.proofs.Common.{◌≡◌, ◌≤◌, take, length, vec_len, vec_capacity}
use Rattle.regions.specs.Kept.{IsSameGame}
use Rattle.strategy_parts.specs.Owned.{MakesAll, move_items}
use Rattle.strategy_parts.specs.Told.{leadings}
use Rattle.strategy_parts.proofs.making.moves_into.Given as goal

-- those so far
abbrev pub invariant-loop-r : goal.invariant-loop-r
invariant-loop-r g l =
    let kept = g.G.Regions.kept in
    let first = kept l.fn.g in
    record {
      made : MakesAll first (kept l.g) (move_items l.moves.items) (leadings first l.fn.who l.fn.when (take l.r-index l.regions));
      counted : vec_len l.moves ≡ l.r-index;
      room : length l.regions ≤ vec_capacity l.moves;
      same : IsSameGame first (kept l.g);
    }
