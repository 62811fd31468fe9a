use Rattle.gr1_law.proofs.Carrying.{play_keeps}
use Rattle.gr1_law.proofs.specification_laws.chosen_plays_keep_the_specification.Goals as goal

pub returns : goal.returns
returns c = play_keeps
