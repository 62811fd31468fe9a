use Rattle.std.proofs.Common.{ap}
use Rattle.hidden_game.specs.GameOf.{game_of}
use Rattle.hidden_game.proofs.MadeGames.{typed_games_made}
use Rattle.hidden_game.proofs.Agreed.{game_agrees}
use Rattle.hidden_game.proofs.laws.games_agree.Goals as goal

pub returns-clause-made : goal.returns-clause-made
returns-clause-made c = typed_games_made

pub returns-clause-agrees : goal.returns-clause-agrees
returns-clause-agrees c = game_agrees

pub returns-clause-equal : goal.returns-clause-equal
returns-clause-equal c = λ s t same. ap game_of same
