use Rattle.std.proofs.Common.{◌==◌, ap, sym, ◌∙◌}
use Rattle.std.proofs.lemmas.Nat.Bits.{bit_at_ones, bit_at-zero}
use Rattle.column_planes.proofs.truths.word_of.Goals as goal

pub returns-then-b : goal.returns-then-b
returns-then-b c = λ i below. ap (λ n. n == 1) (bit_at_ones 64 i below) ∙ sym c.if-b.true

pub returns-else-b : goal.returns-else-b
returns-else-b c = λ i below. ap (λ n. n == 1) (bit_at-zero i) ∙ sym c.if-b.false
