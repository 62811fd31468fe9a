use Rattle.std.proofs.Common.{◌≡◌, ◌++◌, map, flat_map, drop}
use Rattle.spec_model.specs.Views.{formula}
use Rattle.pattern_rows.specs.Rows.{goal_holds}
use Rattle.pattern_rows.proofs.filling.tables.Given as goal

-- what is left leads to the answer
abbrev pub invariant-loop-goal : goal.invariant-loop-goal
invariant-loop-goal l =
    map (λ t. t.items) l.all.items ++ map (λ goal. flat_map (λ own. map (λ letter. goal_holds goal letter own) (map (λ c. c.items) l.letters)) (map (λ c. c.items) l.owns)) (map formula (drop l.goal-index l.goal-items))
    ≡ map (λ goal. flat_map (λ own. map (λ letter. goal_holds goal letter own) (map (λ c. c.items) l.letters)) (map (λ c. c.items) l.owns)) (map formula l.goal-items)
