use Rattle.std.proofs.Common.{arith}
use Rattle.worked_diagrams.proofs.nodes.bit.Goals as goal

pub find_or_add-requires : goal.find_or_add-requires
find_or_add-requires c = record {
  below = c.requires.below;
  unlike = λ e. cc;
  low_live = c.requires.sound.false_live;
  high_live = c.requires.sound.true_live;
  low_later = omega (arith, c.requires.below, c.requires.sound.false_last);
  high_later = omega (arith, c.requires.below, c.requires.sound.true_last);
}
