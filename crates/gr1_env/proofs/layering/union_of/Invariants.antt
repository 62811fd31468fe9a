use Rattle.regions.specs.Kept.{MakesRegion, IsSameGame}
use Rattle.gr1_law.specs.Layers.{union}
use Rattle.gr1_env.specs.Held.{hold_set}
use Rattle.gr1_env.proofs.layering.union_of.Given as goal

-- the states of the holds so far
abbrev pub invariant-loop-e : goal.invariant-loop-e
invariant-loop-e g l =
    let kept = g.G.Regions.kept in
    let first = kept l.fn.g in
    record {
      made : MakesRegion first (kept l.g) l.joined (union (hold_set first l.goals) l.e-index);
      same : IsSameGame first (kept l.g);
    }
