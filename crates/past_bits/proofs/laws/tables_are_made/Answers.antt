use Rattle.past_bits.proofs.Typed.{lines_plain, lines_have_kinds}
use Rattle.past_bits.proofs.Ordered.{are_ordered}
use Rattle.past_bits.proofs.Made.{tables_made}
use Rattle.past_bits.proofs.laws.tables_are_made.Goals as goal

pub returns : goal.returns
returns c = λ s typed. tables_made s (lines_have_kinds s typed) (are_ordered s (lines_plain s typed))
