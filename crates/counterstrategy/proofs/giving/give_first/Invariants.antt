use Rattle.std.proofs.Common.{◌≡◌, ◌<◌, ◌≤◌, ℕ, length}
use Rattle.spec_model.specs.Values.{Assignment}
use Rattle.spec_model.specs.Steps.{Before}
use Rattle.spec_model.specs.Sets.{StateSet}
use Rattle.regions.specs.declared.types.When.{When}
use Rattle.regions.specs.Kept.{Stays, IsSameGame}
use Rattle.regions.specs.Rules.{AreBefore}
use Rattle.counterstrategy.specs.Forced.{MovesLead, IsFirstForced}
use Rattle.counterstrategy.proofs.giving.give_first.Given as goal

-- no input forces the state into one of the sets so far
abbrev pub invariant-loop-n : goal.invariant-loop-n
invariant-loop-n g l =
    let kept = g.G.Regions.kept in
    let first = kept l.fn.g in
    record {
      none : (when : When) (sets : ℕ → StateSet) (b : Before) (r : ℕ) (x : Assignment) →
          MovesLead first when l.fn.moves sets → AreBefore first.game when b l.fn.state → IsFirstForced first.game when sets b r x → r < length l.fn.moves → l.n ≤ r;
      room : length l.input ≡ length l.fn.input;
      stays : Stays first (kept l.g);
      same : IsSameGame first (kept l.g);
    }
