use Rattle.hidden_game.proofs.FewGoals.{goals_few, asms_few}
use Rattle.hidden_game.proofs.laws.goals_are_few.Goals as goal

pub returns-clause-goals : goal.returns-clause-goals
returns-clause-goals c = goals_few

pub returns-clause-asms : goal.returns-clause-asms
returns-clause-asms c = asms_few
