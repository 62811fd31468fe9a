use Rattle.gr1_law.proofs.Keeping.{play_keeps}
use Rattle.gr1_law.proofs.laws.chosen_plays_keep.Goals as goal

pub returns : goal.returns
returns c g made z l ranks w greatest start = play_keeps g made z l ranks w greatest start
