use Rattle.std.proofs.Common.{◌∙◌}
use Rattle.spec_model.specs.Moves.{has_next}
use Rattle.game_values.proofs.WholeTables.{map-flags}
use Rattle.game_play.proofs.answering.OutputJudge.make.Goals as goal

pub returns : goal.returns
returns c = record { nexts = rw c.deref.ensures.value at c.in_ok-nexts.ensures ∙ map-flags has_next c.args.game.now.safe_gar.items }
