use Rattle.past_bits.proofs.Typed.{lines_plain}
use Rattle.past_bits.proofs.Ordered.{are_ordered}
use Rattle.past_bits.proofs.Runs.{entries_agree}
use Rattle.past_bits.proofs.laws.entries_are_operators.Goals as goal

pub returns : goal.returns
returns c = λ s g typed begins. let plain = lines_plain s typed in entries_agree s g plain (are_ordered s plain) begins
