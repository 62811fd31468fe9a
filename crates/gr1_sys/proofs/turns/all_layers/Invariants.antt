use Rattle.std.proofs.Common.{◌≡◌, ◌≤◌, length, vec_len, vec_capacity}
use Rattle.spec_model.specs.Sets.{StateSet, pre_sys}
use Rattle.regions.specs.Kept.{IsSameGame}
use Rattle.gr1_sys.specs.Held.{HaveClimbed}
use Rattle.gr1_sys.proofs.turns.all_layers.Given as goal

-- the layers of the goals so far
abbrev pub invariant-loop-goal : goal.invariant-loop-goal
invariant-loop-goal g l =
    let kept = g.G.Regions.kept in
    let first = kept l.fn.g in
    record {
      climbed : (z : StateSet) → first.set l.ready ≡ pre_sys first.game z → HaveClimbed first.game first (kept l.g) z l.goals.items;
      counted : vec_len l.goals ≡ l.goal-index;
      room : length l.goal-items ≤ vec_capacity l.goals;
      same : IsSameGame first (kept l.g);
    }
