use Rattle.regions.specs.Kept.{MakesRegion, IsSameGame}
use Rattle.gr1_law.specs.Layers.{union}
use Rattle.gr1_sys.specs.Held.{set_at}
use Rattle.gr1_sys.proofs.ranks.union_of.Given as goal

-- the states of the regions so far
abbrev pub invariant-loop-x : goal.invariant-loop-x
invariant-loop-x g l =
    let kept = g.G.Regions.kept in
    let first = kept l.fn.g in
    record {
      made : MakesRegion first (kept l.g) l.joined (union (set_at first l.xs) l.x-index);
      same : IsSameGame first (kept l.g);
    }
