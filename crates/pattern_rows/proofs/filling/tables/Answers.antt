use Rattle.std.proofs.Common.{map, flat_map, ap}
use Rattle.spec_model.specs.Views.{formula, pattern_data}
use Rattle.pattern_rows.specs.Rows.{goal_holds}
use Rattle.pattern_rows.proofs.Lines.{goal_at}
use Rattle.pattern_rows.proofs.Steps.{added_one}
use Rattle.pattern_rows.proofs.filling.tables.Goals as goal

pub entries-requires-clause-goal : goal.entries-requires-clause-goal
entries-requires-clause-goal c =
    goal_at (pattern_data c.args.pattern.now) c.requires.shaped c.deref-goal-items.result.now c.loop-goal.goal-index c.goal-item.result (ap (λ es. map formula es) c.deref-goal-items.ensures.value) c.loop-goal-test.true c.goal-item.is

pub loop-goal-preserved : goal.loop-goal-preserved
loop-goal-preserved c =
    added_one formula c.deref-goal-items.result.now c.loop-goal.goal-index c.goal-item.result c.loop-goal-test.true c.goal-item.is (λ t. t.items)
    (λ goal. flat_map (λ own. map (λ letter. goal_holds goal letter own) (map (λ c. c.items) c.args.letters.now)) (map (λ c. c.items) c.args.owns.now)) c.loop-goal.all.items c.push.new.self.items c.in_ok-entries.field-0 _ c.in_ok-push.ensures.items c.in_ok-entries.ensures c.loop-goal.invariant
