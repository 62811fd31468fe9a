use Rattle.std.proofs.Common.{arith}
use Rattle.std.specs.Prelude.{bit_and, bit_or}
use Rattle.region_rows.specs.Rows.{word_of, ones_of}
use Rattle.region_rows.proofs.WordLaws.{either_shown, pushed}
use Rattle.region_rows.proofs.row.either.Goals as goal

pub loop-j-preserved : goal.loop-j-preserved
loop-j-preserved c =
    let a = c.args.a.now in
    let b = c.args.b.now in
    let count = c.args.count in
    pushed _ _ (λ j. bit_and (bit_or (word_of a j) (word_of b j)) (ones_of count j)) c.loop-j.j _ c.in_ok-push.ensures.items c.loop-j.invariant (rw (c.word.ensures, c.word-in-loop-j.ensures, c.mask.ensures))

pub returns : goal.returns
returns c = either_shown _ c.args.a.now c.args.b.now c.args.count c.loop-j.j (omega arith) c.loop-j.invariant
