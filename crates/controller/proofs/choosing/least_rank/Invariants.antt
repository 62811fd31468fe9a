use Rattle.std.proofs.Common.{◌≡◌, ◌<◌, ◌≤◌, ℕ, length}
use Rattle.spec_model.specs.Values.{Assignment}
use Rattle.spec_model.specs.Steps.{Before}
use Rattle.spec_model.specs.Sets.{StateSet}
use Rattle.regions.specs.declared.types.When.{When}
use Rattle.regions.specs.Kept.{Stays, IsSameGame}
use Rattle.regions.specs.Rules.{AreBefore, output_count}
use Rattle.controller.specs.Aims.{AimsLead}
use Rattle.controller.specs.Turns.{IsFirstReached}
use Rattle.controller.proofs.choosing.least_rank.Given as goal

-- no output leads into the layers so far
abbrev pub invariant-loop-r : goal.invariant-loop-r
invariant-loop-r g l =
    let kept = g.G.Regions.kept in
    let first = kept l.fn.g in
    record {
      none : (when : When) (y : ℕ → StateSet) (x : ℕ → ℕ → StateSet) (b : Before) (r : ℕ) (reply : Assignment) →
          AimsLead first when l.fn.aims y x → AreBefore first.game when b l.fn.state → IsFirstReached first.game when y b l.fn.input r reply → r < length l.fn.aims → l.r ≤ r;
      room : length l.out ≡ output_count first.game;
      stays : Stays first (kept l.g);
      same : IsSameGame first (kept l.g);
    }
