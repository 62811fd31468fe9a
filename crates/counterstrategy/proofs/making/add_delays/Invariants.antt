use Rattle.std.proofs.Common.{◌++◌, List, Vec, take}
use Rattle.std.specs.declared.alloc.Global.{Global}
use Rattle.spec_model.specs.declared.value.Owner.TheVariants.{Env}
use Rattle.regions.specs.declared.types.When.TheVariants.{Later}
use Rattle.regions.specs.Kept.{IsSameGame}
use Rattle.strategy_parts.specs.Told.{leadings}
use Rattle.counterstrategy.specs.Owned.{list_items, all_lists, all_delays, AreLike}
use Rattle.counterstrategy.specs.Made.{Adds}
use Rattle.counterstrategy.proofs.making.add_delays.Given as goal

-- those so far
abbrev pub invariant-loop-l : goal.invariant-loop-l
invariant-loop-l g l =
    let kept = g.G.Regions.kept in
    let first = kept l.fn.g in
    record {
      added : Adds list_items first (kept l.g) l.fn.chains.items l.chains.items (leadings first Env Later (all_delays (take l.l-index l.fn.layers)));
      alike : (done : List (Vec _ Global)) → AreLike l.fn.chains.items done → AreLike l.chains.items (done ++ all_lists (take l.l-index l.fn.layers));
      same : IsSameGame first (kept l.g);
    }
