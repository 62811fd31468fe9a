use Rattle.std.proofs.Common.{refl}
use Rattle.hidden_game.specs.GameOf.{game_of}
use Rattle.solve.proofs.Budgets.{below_game, crowded_below_need}
use Rattle.solve.proofs.laws.crowded_only_below_the_need.Goals as goal

pub returns : goal.returns
returns c s n crowded = below_game s (game_of s) refl n (crowded_below_need (game_of s) n crowded)
