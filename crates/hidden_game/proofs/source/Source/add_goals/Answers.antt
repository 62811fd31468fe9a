use Rattle.std.proofs.Common.{◌≡◌, true, map}
use Rattle.spec_model.specs.Views.{line_data, spec_data}
use Rattle.spec_model.specs.GameViews.{goal_data}
use Rattle.hidden_game.specs.GameOf.{recurs}
use Rattle.hidden_game.proofs.Making.{same_added, recurring-some, recurring-none, goal-counts}
use Rattle.hidden_game.proofs.source.Source.add_goals.Goals as goal

pub returns-in-Some : goal.returns-in-Some
returns-in-Some c =
    let s = spec_data c.args.self.now.spec.now in
    let l = line_data c.args.line.now in
    let counts : recurs c.args.player l.role ≡ true = let a = c.recurs.ensures in let b = c.if-not-recurs.false in cc in
    record {
      added =
          same_added c.add_recurring.result (map goal_data c.add_recurring.new.goals.items) (map goal_data c.args.goals.now.items) _ _
          (goal-counts s c.args.player c.args.table l _ counts (recurring-some s c.args.table l.content _ c.in-Some.ensures))
          c.add_recurring.ensures.added;
    }

pub returns-in-None : goal.returns-in-None
returns-in-None c =
    let s = spec_data c.args.self.now.spec.now in
    let l = line_data c.args.line.now in
    let counts : recurs c.args.player l.role ≡ true = let a = c.recurs.ensures in let b = c.if-not-recurs.false in cc in
    record {
      added =
          same_added c.add_parts.result (map goal_data c.add_parts.new.goals.items) (map goal_data c.args.goals.now.items) _ _
          (goal-counts s c.args.player c.args.table l _ counts (recurring-none s c.args.table l.content c.in-None.ensures))
          c.add_parts.ensures.added;
    }
