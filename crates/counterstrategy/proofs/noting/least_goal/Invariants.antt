use Rattle.std.proofs.Common.{◌≡◌, ◌<◌, ◌≤◌, ℕ, length, IsTrue}
use Rattle.spec_model.specs.Games.{State, listed}
use Rattle.spec_model.specs.Steps.{is_state}
use Rattle.spec_model.specs.Sets.{StateSet}
use Rattle.regions.specs.Kept.{Stays, IsSameGame}
use Rattle.gr1_law.specs.Layers.{IsLeastNumber}
use Rattle.strategy_parts.specs.Owned.{RegionsAre}
use Rattle.counterstrategy.specs.Settled.{holds_in}
use Rattle.counterstrategy.proofs.noting.least_goal.Given as goal

-- none of those so far has the state
abbrev pub invariant-loop-j : goal.invariant-loop-j
invariant-loop-j g l =
    let kept = g.G.Regions.kept in
    let first = kept l.fn.g in
    record {
      none : (sets : ℕ → StateSet) (s : State) (n : ℕ) → RegionsAre first (holds_in l.fn.goals) sets → IsTrue (is_state first.game s) → listed s ≡ l.fn.state →
          IsLeastNumber (λ n. IsTrue (sets n s)) n → n < length l.fn.goals → l.j ≤ n;
      stays : Stays first (kept l.g);
      same : IsSameGame first (kept l.g);
    }
