use Rattle.std.proofs.Common.{◌≡◌, ◌≤◌, take, length, vec_len, vec_capacity}
use Rattle.regions.specs.declared.types.When.TheVariants.{Later}
use Rattle.regions.specs.Kept.{IsSameGame}
use Rattle.gr1_sys.specs.Held.{all_regions}
use Rattle.strategy_parts.specs.Owned.{MakesAll}
use Rattle.controller.specs.Owned.{all_aims_items}
use Rattle.controller.specs.Made.{AreAllLike, leadings}
use Rattle.controller.proofs.making.later_aims.Given as goal

-- those so far
abbrev pub invariant-loop-goal : goal.invariant-loop-goal
invariant-loop-goal g l =
    let kept = g.G.Regions.kept in
    let first = kept l.fn.g in
    record {
      made : MakesAll first (kept l.g) (all_aims_items l.goals.items) (leadings first Later (all_regions (take l.goal-index l.layers)));
      alike : AreAllLike l.goals.items (take l.goal-index l.layers);
      counted : vec_len l.goals ≡ l.goal-index;
      room : length l.layers ≤ vec_capacity l.goals;
      same : IsSameGame first (kept l.g);
    }
