use Rattle.std.proofs.Common.{◌≡◌, ◌<◌, ◌≤◌, ℕ, length, IsTrue}
use Rattle.spec_model.specs.Games.{State, listed}
use Rattle.spec_model.specs.Steps.{is_state}
use Rattle.spec_model.specs.Sets.{StateSet}
use Rattle.regions.specs.Kept.{Stays, IsSameGame}
use Rattle.gr1_law.specs.Layers.{IsLeastNumber}
use Rattle.strategy_parts.specs.Owned.{RegionsAre}
use Rattle.controller.proofs.choosing.least_index.Given as goal

-- none of the regions so far has the state
abbrev pub invariant-loop-i : goal.invariant-loop-i
invariant-loop-i g l =
    let kept = g.G.Regions.kept in
    let first = kept l.fn.g in
    record {
      none : (sets : ℕ → StateSet) (s : State) (i : ℕ) → RegionsAre first l.fn.regions sets → IsTrue (is_state first.game s) → listed s ≡ l.fn.state →
          IsLeastNumber (λ n. IsTrue (sets n s)) i → i < length l.fn.regions → l.i ≤ i;
      stays : Stays first (kept l.g);
      same : IsSameGame first (kept l.g);
    }
