use Rattle.std.proofs.Common.{◌∷◌, take}
use Rattle.spec_model.specs.declared.value.Owner.TheVariants.{Env}
use Rattle.regions.specs.Kept.{IsSameGame}
use Rattle.strategy_parts.specs.Owned.{move_items}
use Rattle.strategy_parts.specs.Told.{leadings}
use Rattle.counterstrategy.specs.Settled.{tops}
use Rattle.counterstrategy.specs.Made.{Adds}
use Rattle.counterstrategy.proofs.making.add_layers.Given as goal

-- those so far
abbrev pub invariant-loop-l : goal.invariant-loop-l
invariant-loop-l g l =
    let kept = g.G.Regions.kept in
    let first = kept l.fn.g in
    record {
      added : Adds move_items first (kept l.g) l.fn.moves.items l.moves.items (leadings first Env l.fn.when (l.fn.none ∷ tops (take l.l-index l.fn.layers)));
      same : IsSameGame first (kept l.g);
    }
