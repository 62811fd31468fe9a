use Rattle.std.proofs.Common.{sym, ◌∙◌}
use Rattle.pattern_rows.proofs.Bits.{bit-ones}
use Rattle.pattern_rows.proofs.wide.all_or_none.Goals as goal

pub returns-then-b : goal.returns-then-b
returns-then-b c = λ l below. bit-ones l below ∙ sym c.if-b.true
