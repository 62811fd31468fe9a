use Rattle.std.proofs.Common.{◌==◌, ◌/◌, length, slice_set, ◌∙◌, arith}
use Rattle.std.proofs.lemmas.List.{length-set}
use Rattle.column_planes.proofs.EqualCodes.{bits_of_codes, last_word}
use Rattle.column_planes.proofs.codes.equal_codes.Goals as goal

pub returns-then-whole-out-clause-bits : goal.returns-then-whole-out-clause-bits
returns-then-whole-out-clause-bits c =
    let codes = c.args.codes.now in
    let out = slice_set c.loop-k.out (length codes / 64) c.last_word.result in
    let same = length-set c.loop-k.out (length codes / 64) c.last_word.result ∙ c.loop-k.invariant.lengths in
    bits_of_codes (λ code. code == c.args.value) codes out (omega (arith, same, c.requires.enough))
    (last_word (λ code. code == c.args.value) codes c.loop-k.out (length codes / 64) c.last_word.result (omega (arith, c.loop-k.invariant.lengths, c.requires.begun)) (omega arith)
    (λ j below. c.loop-k.invariant.words j (omega (arith, below, c.loop-k-test.false))) c.last_word.ensures)

pub returns-else-whole-out-clause-bits : goal.returns-else-whole-out-clause-bits
returns-else-whole-out-clause-bits c =
    bits_of_codes (λ code. code == c.args.value) c.args.codes.now c.loop-k.out (omega (arith, c.loop-k.invariant.lengths, c.requires.enough))
    (λ j below. c.loop-k.invariant.words j (omega (arith, below, c.loop-k-test.false, c.if-whole-out.false)))
