use Rattle.bit_compile.proofs.named.+number.Given as goal

abbrev pub decreases-number : goal.decreases-number
decreases-number l = l.width
