use Rattle.std.proofs.Common.{◌++◌, List, Vec, take}
use Rattle.std.specs.declared.alloc.Global.{Global}
use Rattle.spec_model.specs.declared.value.Owner.TheVariants.{Env}
use Rattle.regions.specs.declared.types.When.TheVariants.{Later}
use Rattle.regions.specs.Kept.{IsSameGame}
use Rattle.gr1_env.specs.Held.{list_regions}
use Rattle.strategy_parts.specs.Told.{leadings}
use Rattle.counterstrategy.specs.Owned.{list_items, AreLike}
use Rattle.counterstrategy.specs.Made.{Adds}
use Rattle.counterstrategy.proofs.making.add_lists.Given as goal

-- those so far
abbrev pub invariant-loop-list : goal.invariant-loop-list
invariant-loop-list g l =
    let kept = g.G.Regions.kept in
    let first = kept l.fn.g in
    record {
      added : Adds list_items first (kept l.g) l.fn.chains.items l.chains.items (leadings first Env Later (list_regions (take l.list-index l.fn.lists)));
      alike : (done : List (Vec _ Global)) → AreLike l.fn.chains.items done → AreLike l.chains.items (done ++ take l.list-index l.fn.lists);
      same : IsSameGame first (kept l.g);
    }
