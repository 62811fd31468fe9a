use Rattle.spec_model.specs.Views.{spec_data}
use Rattle.spec_model.specs.GameViews.{game_data}
use Rattle.hidden_game.specs.GameOf.{game_of}
use Rattle.solve.proofs.Budgets.{made_halt, new_space}
use Rattle.solve.proofs.space.space_of.Goals as goal

pub returns-clause-made : goal.returns-clause-made
returns-clause-made c = new_space (game_data c.in-Ok.game) (game_of (spec_data c.args.spec.now)) c.in-Ok.ensures.game c.make.result c.make.ensures.made

pub returns-clause-cause : goal.returns-clause-cause
returns-clause-cause c = λ declared. made_halt (spec_data c.args.spec.now) (game_data c.in-Ok.game) c.in-Ok.ensures.game c.args.budget c.make.result (c.make.ensures.cause declared)
