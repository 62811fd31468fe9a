use Rattle.spec_model.proofs.Duel as duel
use Rattle.spec_model.specs.Moves.{rules_of}
use Rattle.solve.proofs.laws.no_specification_is_won_by_both.Goals as goal

pub returns : goal.returns
returns c s k n m won lost = duel.never_both (rules_of s) k n m won.wins.realizable lost.wins.unrealizable
