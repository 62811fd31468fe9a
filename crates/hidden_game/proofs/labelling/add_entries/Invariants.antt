use Rattle.std.proofs.Common.{◌≡◌, ◌++◌, ◌==◌, if◌then◌else◌, map}
use Rattle.spec_model.specs.GameViews.{goal_data}
use Rattle.hidden_game.specs.Sources.{goals_of_parts}
use Rattle.hidden_game.proofs.labelling.add_entries.Given as goal

abbrev pub invariant-loop-part : goal.invariant-loop-part
invariant-loop-part l = map goal_data l.goals.items ≡ map goal_data l.initial.goals.items ++ goals_of_parts l.line l.table (if l.parts == 1 then 0 else 1) l.part
