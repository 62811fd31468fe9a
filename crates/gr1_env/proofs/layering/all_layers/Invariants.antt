use Rattle.std.proofs.Common.{◌-◌, length, map}
use Rattle.spec_model.specs.Steps.{states_of}
use Rattle.spec_model.specs.Counts.{count_in}
use Rattle.regions.specs.Kept.{IsSameGame}
use Rattle.gr1_env.specs.Held.{last_z}
use Rattle.gr1_env.proofs.Growing.{ClimbsLayers}
use Rattle.gr1_env.proofs.layering.all_layers.Given as goal

-- the first layers
abbrev pub invariant-loop-more : goal.invariant-loop-more
invariant-loop-more g l =
    let kept = g.G.Regions.kept in
    let first = kept l.fn.g in
    record {
      climbs : ClimbsLayers first.game first (kept l.g) l.given.none (map first.set l.given.misses.items) (map first.set l.given.asms.items) l.layers.items;
      same : IsSameGame first (kept l.g);
    }

-- how many states are not in the last layer
abbrev pub decreases-loop-more : goal.decreases-loop-more
decreases-loop-more g l = let k = g.G.Regions.kept l.g in length (states_of k.game) - count_in (k.set (last_z l.given.none l.layers.items)) (states_of k.game)
