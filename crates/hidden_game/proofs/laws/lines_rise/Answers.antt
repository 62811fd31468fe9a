use Rattle.hidden_game.proofs.MadeGames as made
use Rattle.hidden_game.proofs.laws.lines_rise.Goals as goal

pub returns : goal.returns
returns c = made.lines_rise
