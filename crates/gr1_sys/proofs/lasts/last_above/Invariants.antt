use Rattle.std.proofs.Common.{◌≡◌, ℕ, suc, ◌<◌, ◌-◌, length}
use Rattle.spec_model.specs.Steps.{states_of}
use Rattle.spec_model.specs.Sets.{StateSet, both, pre_sys}
use Rattle.spec_model.specs.Counts.{count_in}
use Rattle.regions.specs.Kept.{MakesRegion, IsSameGame}
use Rattle.gr1_law.specs.Layers.{goal_set}
use Rattle.gr1_sys.specs.Solution.{layer_of}
use Rattle.gr1_sys.proofs.lasts.last_above.Given as goal

-- one layer is held more than at first, and each before it differs from the next
abbrev pub invariant-loop-next : goal.invariant-loop-next
invariant-loop-next g l =
    let kept = g.G.Regions.kept in
    let first = kept l.fn.g in
    record {
      made : (z : StateSet) (j : ℕ) → first.set l.reach ≡ both (goal_set first.game j) (pre_sys first.game z) → MakesRegion first (kept l.g) l.y (layer_of first.game z j l.n);
      unsettled : (z : StateSet) (j : ℕ) → first.set l.reach ≡ both (goal_set first.game j) (pre_sys first.game z) → (r : ℕ) → r < l.n → layer_of first.game z j r ≡ layer_of first.game z j (suc r) → ⊥;
      same : IsSameGame first (kept l.g);
    }

-- how many states are not in that layer
abbrev pub decreases-loop-next : goal.decreases-loop-next
decreases-loop-next g l = let k = g.G.Regions.kept l.g in length (states_of k.game) - count_in (k.set l.y) (states_of k.game)
