use Rattle.std.proofs.Common.{◌≡◌, ◌++◌, drop, map}
use Rattle.spec_model.specs.GameViews.{goal_data}
use Rattle.line_functions.specs.Asking.{formulas_seen}
use Rattle.line_functions.proofs.formulas.add_goals.Given as goal

-- those so far and those of what is left are all
abbrev pub invariant-loop-goal : goal.invariant-loop-goal
invariant-loop-goal l = formulas_seen l.all.items ++ map (λ x. x.holds) (map goal_data (drop l.goal-index l.goals)) ≡ formulas_seen l.fn.all.items ++ map (λ x. x.holds) (map goal_data l.goals)
