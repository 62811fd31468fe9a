use Rattle.std.proofs.Common.{◌≡◌, Ok, true, drop, map, take}
use Rattle.std.specs.List.{list_all}
use Rattle.spec_model.specs.GameViews.{game_data, goal_data}
use Rattle.spec_model.specs.WellMade.{scope_of, is_state_formula}
use Rattle.bit_compile.specs.Compiled.{compiled}
use Rattle.bdd_sets.specs.Lists.{MakesList}
use Rattle.bdd_sets.proofs.goals.goal_roots.Given as goal

-- the diagrams of the goals so far, and what the rest are
abbrev pub invariant-loop-goal : goal.invariant-loop-goal
invariant-loop-goal l =
    record {
      made : MakesList l.fn.diagrams l.diagrams (Ok l.roots) (map (λ goal. compiled (game_data l.game) goal.holds) (map goal_data (take l.goal-index l.goals)));
      formulas : list_all (λ goal. is_state_formula (scope_of (game_data l.game)) goal.holds) (map goal_data (drop l.goal-index l.goals)) ≡ true;
    }
