use Rattle.session_lines.proofs.Slices.{moved}
use Rattle.session_lines.proofs.reader.shift_down.Goals as goal

pub returns : goal.returns
returns c = moved c.args.buffer.now _ _ c.args.start c.args.end c.requires.ordered c.requires.within c.rotate_left.ensures.after
