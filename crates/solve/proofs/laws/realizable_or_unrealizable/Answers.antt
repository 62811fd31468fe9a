use Rattle.hidden_game.specs.GameOf.{game_of}
use Rattle.hidden_game.proofs.MadeGames.{typed_games_made, lines_rise}
use Rattle.hidden_game.proofs.Agreed.{game_agrees}
use Rattle.solve.proofs.Wholly.{one_wins}
use Rattle.solve.proofs.laws.realizable_or_unrealizable.Goals as goal

pub returns : goal.returns
returns c s typed =
    one_wins s (record { rises = lines_rise s typed; game = game_of s; agrees = game_agrees s typed; made = typed_games_made s typed })
