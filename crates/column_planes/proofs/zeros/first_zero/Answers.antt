use Rattle.std.proofs.Common.{arith}
use Rattle.column_planes.proofs.FirstZero.{first_among, ones_before, zero_there, full_of_part}
use Rattle.column_planes.proofs.zeros.first_zero.Goals as goal

pub returns-then-k-words : goal.returns-then-k-words
returns-then-k-words c = λ i below.
    let a = c.args.a.now in
    let words = c.words_for-words.result in
    let k = c.first_open-k.result in
    ones_before a k 0 (full_of_part a words k (omega (arith, c.if-k-words.true)) c.first_open-k.ensures.full) (omega arith) (λ j no. absurd (omega (arith, no))) i
    (omega (arith, below, c.if-k-words.true, c.words_for-words.ensures.enough))

pub overflow_add-i : goal.overflow_add-i
overflow_add-i c =
    let first = first_among c.args.a.now c.words_for-words.result c.first_open-k.result c.trailing_ones.result c.args.bits c.requires c.words_for-words.ensures.begun c.first_open-k.ensures.full c.if-k-words.false c.first_open-k.ensures.stops c.trailing_ones.ensures in
    let fits = c.ranges.bits.fits in
    record { fits = omega (arith, first.low, first.inside, fits, c.words_for-words.ensures.begun) }

pub returns-then-i-bits : goal.returns-then-i-bits
returns-then-i-bits c =
    let a = c.args.a.now in
    let k = c.first_open-k.result in
    let o = c.trailing_ones.result in
    let first = first_among a c.words_for-words.result k o c.args.bits c.requires c.words_for-words.ensures.begun c.first_open-k.ensures.full c.if-k-words.false c.first_open-k.ensures.stops c.trailing_ones.ensures in
    (c.if-i-bits.true, zero_there a k o first.low first.zero, ones_before a k o first.full (omega (arith, first.low)) first.ones)

pub returns-else-i-bits : goal.returns-else-i-bits
returns-else-i-bits c = λ i below.
    let a = c.args.a.now in
    let k = c.first_open-k.result in
    let o = c.trailing_ones.result in
    let first = first_among a c.words_for-words.result k o c.args.bits c.requires c.words_for-words.ensures.begun c.first_open-k.ensures.full c.if-k-words.false c.first_open-k.ensures.stops c.trailing_ones.ensures in
    ones_before a k o first.full (omega (arith, first.low)) first.ones i (omega (arith, below, c.if-i-bits.false))
