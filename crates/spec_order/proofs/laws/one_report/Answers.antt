use Rattle.hidden_game.specs.GameOf.{game_of}
use Rattle.spec_order.proofs.ClimbLemmas.{same_report}
use Rattle.spec_order.proofs.laws.one_report.Goals as goal

pub returns : goal.returns
returns c = λ s a b first second. same_report (game_of s) a b first second
