use Rattle.std.proofs.Common.{◌≡◌, ◌≤◌, length, map, vec_len, vec_capacity}
use Rattle.spec_model.specs.Sets.{either}
use Rattle.regions.specs.Kept.{IsSameGame}
use Rattle.gr1_sys.specs.Held.{MakesRegions}
use Rattle.gr1_env.specs.Solution.{at}
use Rattle.gr1_env.specs.Held.{goal_regions, holds_sets, AllOf, IsWholeHold}
use Rattle.gr1_env.proofs.layering.holds_above.Given as goal

-- the holds of the goals so far
abbrev pub invariant-loop-miss : goal.invariant-loop-miss
invariant-loop-miss g l =
    let kept = g.G.Regions.kept in
    let first = kept l.fn.g in
    let misses = map first.set l.given.misses.items in
    let asms = map first.set l.given.asms.items in
    record {
      made : MakesRegions first (kept l.g) (goal_regions l.goals.items) (holds_sets first.game (first.set l.forced) misses asms l.goals.items);
      whole : AllOf (λ j e. IsWholeHold first.game (either (at misses j) (first.set l.forced)) asms e) l.goals.items;
      counted : vec_len l.goals ≡ l.miss-index;
      room : length l.miss-items ≤ vec_capacity l.goals;
      same : IsSameGame first (kept l.g);
    }
