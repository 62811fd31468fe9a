use Rattle.std.proofs.Common.{◌≡◌, ◌≤◌, take, length, vec_len, vec_capacity}
use Rattle.regions.specs.Kept.{IsSameGame}
use Rattle.strategy_parts.specs.Owned.{MakesAll}
use Rattle.controller.specs.Owned.{aims_items}
use Rattle.controller.specs.Made.{AreLike, leadings, regions_for}
use Rattle.controller.proofs.making.aims_into.Given as goal

-- those so far
abbrev pub invariant-loop-layer : goal.invariant-loop-layer
invariant-loop-layer g l =
    let kept = g.G.Regions.kept in
    let first = kept l.fn.g in
    record {
      made : MakesAll first (kept l.g) (aims_items l.aims.items) (leadings first l.fn.when (regions_for l.fn.when (take l.layer-index l.layers)));
      alike : AreLike l.fn.when l.aims.items (take l.layer-index l.layers);
      counted : vec_len l.aims ≡ l.layer-index;
      room : length l.layers ≤ vec_capacity l.aims;
      same : IsSameGame first (kept l.g);
    }
