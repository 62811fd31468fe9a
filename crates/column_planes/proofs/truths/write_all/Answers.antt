use Rattle.std.proofs.Common.{◌==◌, ◌/◌, ◌%◌, ap, ◌∙◌, arith}
use Rattle.std.specs.Int.{bit_at}
use Rattle.column_planes.proofs.truths.write_all.Goals as goal

pub returns-clause-bits : goal.returns-clause-bits
returns-clause-bits c = λ j below.
    ap (λ w. bit_at w (j % 64) == 1) (c.loop-k.invariant.written (j / 64) (omega (arith, below, c.loop-k.invariant.sized, c.loop-k-test.false)))
    ∙ c.word_of-word.ensures (j % 64) (omega arith)
