use Rattle.std.proofs.Common.{◌≡◌, ◌≤◌, ◌+◌, ◌++◌, length, map, drop}
use Rattle.spec_model.specs.Views.{line_data, spec_data}
use Rattle.spec_model.specs.GameViews.{goal_data}
use Rattle.spec_model.specs.Sizes.{past_operators}
use Rattle.hidden_game.specs.GameOf.{goals_for}
use Rattle.hidden_game.proofs.source.Source.goals.Given as goal

-- the goals so far and those of the lines that are left
abbrev pub invariant-loop-line : goal.invariant-loop-line
invariant-loop-line l =
    record {
      made : map goal_data l.all.items ++ goals_for (spec_data l.self.spec.now) l.player l.table (map line_data (drop l.line-index l.self.spec.now.lines.items))
          ≡ goals_for (spec_data l.self.spec.now) l.player (length (past_operators (spec_data l.self.spec.now))) (spec_data l.self.spec.now).lines;
      few : l.table ≤ length (past_operators (spec_data l.self.spec.now)) + l.line-index;
    }
