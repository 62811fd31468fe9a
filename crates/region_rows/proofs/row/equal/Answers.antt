use Rattle.std.proofs.Common.{◌/◌, refl, arith}
use Rattle.region_rows.proofs.WordLaws.{bit_of-word, word-bit_of}
use Rattle.region_rows.proofs.row.equal.Goals as goal

pub returns-then-word-ones : goal.returns-then-word-ones
returns-then-word-ones c = (
  λ yes k h. cc (yes),
  λ all. let same = word-bit_of c.args.a.now c.args.b.now c.args.count c.loop-j.j all in absurd (c.if-word-ones.true (rw (c.word.ensures, c.word-in-loop-j.ensures, c.mask-ones.ensures) same)),
)

pub returns : goal.returns
returns c = (
  λ yes k h. bit_of-word c.args.a.now c.args.b.now c.args.count k h (c.loop-j.invariant (k / 64) (omega arith)),
  λ all. refl,
)
