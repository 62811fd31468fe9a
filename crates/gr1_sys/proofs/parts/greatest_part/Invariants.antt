use Rattle.std.proofs.Common.{◌≡◌, ℕ}
use Rattle.spec_model.specs.Steps.{states_of}
use Rattle.spec_model.specs.Counts.{count_in}
use Rattle.spec_model.proofs.Fixpoints.{IsFalling}
use Rattle.regions.specs.Kept.{MakesRegion, IsSameGame}
use Rattle.gr1_sys.specs.Solution.{iterate}
use Rattle.gr1_sys.specs.Held.{waiting}
use Rattle.gr1_sys.proofs.parts.greatest_part.Given as goal

-- one region more is held than at first, and its set is an iterate on the way down
abbrev pub invariant-loop-next : goal.invariant-loop-next
invariant-loop-next g l =
    let kept = g.G.Regions.kept in
    let first = kept l.fn.g in
    let x = (kept l.g).set l.x in
    record {
      made : MakesRegion first (kept l.g) l.x x;
      same : IsSameGame first (kept l.g);
      falling : IsFalling first.game (waiting first.game (first.set l.base) (first.set l.lapse)) x;
      iterates : (n : ℕ) × (x ≡ iterate first.game (waiting first.game (first.set l.base) (first.set l.lapse)) n);
    }

-- how many states are left
abbrev pub decreases-loop-next : goal.decreases-loop-next
decreases-loop-next g l = let k = g.G.Regions.kept l.g in count_in (k.set l.x) (states_of k.game)
