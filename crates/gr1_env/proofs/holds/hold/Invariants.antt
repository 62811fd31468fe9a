use Rattle.std.proofs.Common.{◌≡◌, ℕ, map}
use Rattle.spec_model.specs.Steps.{states_of}
use Rattle.spec_model.specs.Counts.{count_in}
use Rattle.spec_model.proofs.Fixpoints.{IsFalling}
use Rattle.regions.specs.Kept.{MakesRegion, IsSameGame}
use Rattle.gr1_sys.specs.Solution.{iterate}
use Rattle.gr1_env.specs.Solution.{hold_value_on}
use Rattle.gr1_env.proofs.holds.hold.Given as goal

-- one region more is held than at first, and its set is a value of the hold on the way down
abbrev pub invariant-loop-e : goal.invariant-loop-e
invariant-loop-e g l =
    let kept = g.G.Regions.kept in
    let first = kept l.fn.g in
    let y = (kept l.g).set l.y in
    record {
      made : MakesRegion first (kept l.g) l.y y;
      same : IsSameGame first (kept l.g);
      falling : IsFalling first.game (hold_value_on first.game (first.set l.base) (map first.set l.asms)) y;
      iterates : (n : ℕ) × (y ≡ iterate first.game (hold_value_on first.game (first.set l.base) (map first.set l.asms)) n);
    }

-- how many states are left
abbrev pub decreases-loop-e : goal.decreases-loop-e
decreases-loop-e g l = let k = g.G.Regions.kept l.g in count_in (k.set l.y) (states_of k.game)
