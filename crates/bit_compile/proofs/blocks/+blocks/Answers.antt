use Rattle.std.proofs.Common.{◌+◌, ◌*◌, ◌<◌, ◌||◌, ◌∙◌, List, length, max, ap, false, subst, arith, rules}
use Rattle.std.proofs.lemmas.Bool.Decides.{nat_tests}
use Rattle.spec_model.specs.Diagrams.{Bits, Function}
use Rattle.bdd_ops.specs.Functions.{join_of}
use Rattle.bdd_bits.specs.Contents.{function_at}
use Rattle.bit_compile.specs.Making.{Makes}
use Rattle.bit_compile.specs.Compiled.{Case, some_pair}
use Rattle.bit_compile.specs.CaseRoots.{AreKept, cases_at, passes}
use Rattle.bit_compile.proofs.MakingLemmas.{given_back, root_added, is_root}
use Rattle.bit_compile.proofs.Between.{function_stays, cases_stay, still_kept}
use Rattle.bit_compile.proofs.Folding.{joined_as}
use Rattle.bit_compile.proofs.BlockLemmas.{none_pass, all_pass, either_first, either_second, several_pairs, halves_kept}
use Rattle.bit_compile.proofs.blocks.+blocks.Goals as goal

pub or_block-returns : goal.or_block-returns
or_block-returns t c =
    let made = c.in_ok-second.ensures in
    let old = c.args.diagrams.now in
    let mid = c.block.new.diagrams in
    let n = c.args.first.now in
    let pairs = some_pair (passes c.args.test.now) (cases_at old c.args.xs.now) (cases_at old c.args.ys.now) in
    let is = joined_as (join_of false) (function_at old n) (function_at mid n) pairs (function_at mid c.in_ok-second.second) (function_stays old mid n made.keeps c.requires.first_kept) made.meaning in
    given_back old mid c.or-whole.new.diagrams c.release.new.self c.in_ok-second.second _ _ made c.release.ensures.released c.release.ensures.nodes c.or-whole.result
    (subst (λ (g : Function). Makes mid c.or-whole.new.diagrams c.or-whole.result g) is c.or-whole.ensures.makes)

pub either_block-or_block-whole-requires : goal.either_block-or_block-whole-requires
either_block-or_block-whole-requires t c =
    let old = c.args.diagrams.now in
    let mid = c.block.new.diagrams in
    let made = c.in_ok-first.ensures in
    let first_kept = is_root old mid c.in_ok-first.first _ made in
    let later = root_added old mid c.in_ok-first.first _ made in
    let xs_kept = still_kept old.state mid.state c.args.other.0.now later c.requires.other_kept.0 in
    let ys_kept = still_kept old.state mid.state c.args.other.1.now later c.requires.other_kept.1 in
    let m = length c.args.one.0.now + length c.args.one.1.now in
    let n = length c.args.other.0.now + length c.args.other.1.now in
    let falls : 3 * n + 1 < 3 * max m n + 2 = omega arith in
    search rules

pub either_block-block-requires : goal.either_block-block-requires
either_block-block-requires t c =
    let m = length c.args.one.0.now + length c.args.one.1.now in
    let n = length c.args.other.0.now + length c.args.other.1.now in
    let falls : 3 * m < 3 * max m n + 2 = omega arith in
    let xs_kept = c.requires.one_kept.0 in
    let ys_kept = c.requires.one_kept.1 in
    search rules

pub either_block-returns : goal.either_block-returns
either_block-returns t c =
    let made = c.in_ok-first.ensures in
    let old = c.args.diagrams.now in
    let mid = c.block.new.diagrams in
    let test = passes c.args.test.now in
    let one = c.args.one in
    let other = c.args.other in
    let kept = c.requires.other_kept in
    let first = some_pair test (cases_at old one.0.now) (cases_at old one.1.now) in
    let is = ap (λ (f : Function). (λ (s : Bits). f s || some_pair test (cases_at mid other.0.now) (cases_at mid other.1.now) s)) made.meaning
    ∙ (ap (λ (cs : List Case). (λ (s : Bits). first s || some_pair test cs (cases_at mid other.1.now) s)) (cases_stay old mid other.0.now made.keeps kept.0)
    ∙ ap (λ (cs : List Case). (λ (s : Bits). first s || some_pair test (cases_at old other.0.now) cs s)) (cases_stay old mid other.1.now made.keeps kept.1)) in
    given_back old mid c.or_block-whole.new.diagrams c.release.new.self c.in_ok-first.first _ _ made c.release.ensures.released c.release.ensures.nodes c.or_block-whole.result
    (subst (λ (g : Function). Makes mid c.or_block-whole.new.diagrams c.or_block-whole.result g) is c.or_block-whole.ensures)

pub block-returns-then-none : goal.block-returns-then-none
block-returns-then-none t c =
    let old = c.args.diagrams.now in
    subst (λ (g : Function). Makes old c.constant.new.diagrams c.constant.result g) (none_pass (passes c.args.test.now) old c.args.xs.now c.args.ys.now (rw c.each_is-none.ensures at c.if-none.true)) c.constant.ensures.made

pub block-returns-then-all : goal.block-returns-then-all
block-returns-then-all t c =
    let old = c.args.diagrams.now in
    subst (λ (g : Function). Makes old c.both_some.new.diagrams c.both_some.result g) (all_pass (passes c.args.test.now) old c.args.xs.now c.args.ys.now (rw c.each_is-all.ensures at c.if-all.true)) c.both_some.ensures

pub block-either_block-requires : goal.block-either_block-requires
block-either_block-requires t c =
    let old = c.args.diagrams.now in
    let xs = c.args.xs.now in
    let ys = c.args.ys.now in
    let low = c.split_at.result.0.now in
    let high = c.split_at.result.1.now in
    let many = several_pairs (passes c.args.test.now) xs ys (rw c.each_is-none.ensures at c.if-none.false) (rw c.each_is-all.ensures at c.if-all.false) in
    let some = many.0 in
    let less = c.if-wide.true in
    let several : 1 < length ys = grind (arith, nat_tests, some, less) in
    let kept = halves_kept old.state ys low high c.split_at.ensures.by_index.0 c.requires.ys_kept in
    let one_kept : AreKept old.state xs × AreKept old.state low = (c.requires.xs_kept, kept.0) in
    let other_kept : AreKept old.state xs × AreKept old.state high = (c.requires.xs_kept, kept.1) in
    let falls : 3 * max (length xs + length low) (length xs + length high) + 2 < 3 * (length xs + length ys) = omega (arith, c.split_at.ensures.front_len, c.split_at.ensures.back_len, several) in
    search rules

pub block-either_block-requires-else-wide : goal.block-either_block-requires-else-wide
block-either_block-requires-else-wide t c =
    let old = c.args.diagrams.now in
    let xs = c.args.xs.now in
    let ys = c.args.ys.now in
    let low = c.split_at-else-wide.result.0.now in
    let high = c.split_at-else-wide.result.1.now in
    let many = several_pairs (passes c.args.test.now) xs ys (rw c.each_is-none.ensures at c.if-none.false) (rw c.each_is-all.ensures at c.if-all.false) in
    let more = many.2 in
    let others = c.if-wide.false in
    let several : 1 < length xs = grind (arith, nat_tests, more, others) in
    let kept = halves_kept old.state xs low high c.split_at-else-wide.ensures.by_index.0 c.requires.xs_kept in
    let one_kept : AreKept old.state low × AreKept old.state ys = (kept.0, c.requires.ys_kept) in
    let other_kept : AreKept old.state high × AreKept old.state ys = (kept.1, c.requires.ys_kept) in
    let falls : 3 * max (length low + length ys) (length high + length ys) + 2 < 3 * (length xs + length ys) = omega (arith, c.split_at-else-wide.ensures.front_len, c.split_at-else-wide.ensures.back_len, several) in
    search rules

pub block-returns-then-wide : goal.block-returns-then-wide
block-returns-then-wide t c =
    let old = c.args.diagrams.now in
    subst (λ (g : Function). Makes old c.either_block.new.diagrams c.either_block.result g)
    (either_second (passes c.args.test.now) old c.args.xs.now c.args.ys.now c.split_at.result.0.now c.split_at.result.1.now c.split_at.ensures.by_index.0) c.either_block.ensures

pub block-returns-else-wide : goal.block-returns-else-wide
block-returns-else-wide t c =
    let old = c.args.diagrams.now in
    subst (λ (g : Function). Makes old c.either_block-else-wide.new.diagrams c.either_block-else-wide.result g)
    (either_first (passes c.args.test.now) old c.args.xs.now c.split_at-else-wide.result.0.now c.split_at-else-wide.result.1.now c.args.ys.now c.split_at-else-wide.ensures.by_index.0) c.either_block-else-wide.ensures
