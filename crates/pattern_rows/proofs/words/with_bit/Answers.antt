use Rattle.std.proofs.Common.{◌==◌, ap, sym, ◌∙◌, w64}
use Rattle.std.proofs.lemmas.Nat.Bits.{bit_at_set_same, bit_at_set_other}
use Rattle.pattern_rows.proofs.words.with_bit.Goals as goal

pub returns-then-value-clause-there : goal.returns-then-value-clause-there
returns-then-value-clause-there c = ap (λ n. n == 1) (bit_at_set_same w64 c.args.word c.args.l c.requires.small) ∙ sym c.if-value.true

pub returns-then-value-clause-others : goal.returns-then-value-clause-others
returns-then-value-clause-others c = λ j apart. ap (λ n. n == 1) (bit_at_set_other w64 c.args.word c.args.l c.requires.small j apart)
