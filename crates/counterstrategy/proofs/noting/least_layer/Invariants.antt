use Rattle.std.proofs.Common.{◌≡◌, ◌<◌, ◌≤◌, ℕ, length, IsTrue}
use Rattle.spec_model.specs.Games.{State, listed}
use Rattle.spec_model.specs.Steps.{is_state}
use Rattle.spec_model.specs.Sets.{StateSet}
use Rattle.regions.specs.Kept.{Stays, IsSameGame}
use Rattle.gr1_law.specs.Layers.{IsLeastNumber}
use Rattle.strategy_parts.specs.Owned.{RegionsAre}
use Rattle.counterstrategy.specs.Settled.{tops}
use Rattle.counterstrategy.proofs.noting.least_layer.Given as goal

-- none of those so far has the state
abbrev pub invariant-loop-a : goal.invariant-loop-a
invariant-loop-a g l =
    let kept = g.G.Regions.kept in
    let first = kept l.fn.g in
    record {
      none : (sets : ℕ → StateSet) (s : State) (n : ℕ) → RegionsAre first (tops l.fn.layers) sets → IsTrue (is_state first.game s) → listed s ≡ l.fn.state →
          IsLeastNumber (λ n. IsTrue (sets n s)) n → n < length l.fn.layers → l.a ≤ n;
      stays : Stays first (kept l.g);
      same : IsSameGame first (kept l.g);
    }
