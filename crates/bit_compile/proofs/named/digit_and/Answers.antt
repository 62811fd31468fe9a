use Rattle.std.proofs.Common.{subst, rules, true}
use Rattle.spec_model.specs.Diagrams.{Function}
use Rattle.bdd_bits.specs.Contents.{function_at}
use Rattle.bdd_bits.proofs.CallLemmas.{keeps_function}
use Rattle.bit_compile.specs.Making.{Makes, digit, with_digit}
use Rattle.bit_compile.proofs.MakingLemmas.{given_back, both_digits, is_root, root_added}
use Rattle.bit_compile.proofs.Causes.{cause_join, cause_back, cause_handed, no_name}
use Rattle.bit_compile.proofs.NamedSteps.{is_digit}
use Rattle.bit_compile.specs.NamedCodes.{IsDigit, NoFunction}
use Rattle.bdd_ops.specs.Functions.{joined, join_of}
use Rattle.bit_compile.proofs.named.digit_and.Goals as goal

pub returns-clause-made : goal.returns-clause-made
returns-clause-made c =
    let first = c.in_ok-bit.ensures.made in
    let mid = c.digit_root.new.diagrams in
    let same = keeps_function c.args.diagrams.now mid c.args.rest.now first.keeps c.requires.kept in
    let is = both_digits c.args.level c.args.high (function_at mid c.in_ok-bit.bit) (function_at mid c.args.rest.now) (function_at c.args.diagrams.now c.args.rest.now) first.meaning same in
    let made = subst (λ (g : Function). Makes mid c.and-whole.new.diagrams c.and-whole.result g) is c.and-whole.ensures.makes in
    given_back c.args.diagrams.now mid c.and-whole.new.diagrams c.release.new.self c.in_ok-bit.bit (digit c.args.level c.args.high) (with_digit c.args.level c.args.high (function_at c.args.diagrams.now c.args.rest.now)) first c.release.ensures.released c.release.ensures.nodes c.and-whole.result made

pub returns-in_err-bit-clause-cause : goal.returns-in_err-bit-clause-cause
returns-in_err-bit-clause-cause c =
    cause_handed c.args.diagrams.now c.digit_root.new.diagrams c.digit_root.result c.from_residual.result c.in_err-bit.field-0.0 (IsDigit c.args.level) c.in_err-bit.was (search rules) c.digit_root.ensures.cause

pub returns-clause-cause : goal.returns-clause-cause
returns-clause-cause c =
    let old = c.args.diagrams.now in
    let mid = c.digit_root.new.diagrams in
    let named = IsDigit c.args.level in
    let own = digit c.args.level c.args.high in
    let first = c.in_ok-bit.ensures.made in
    let bit = c.in_ok-bit.bit in
    cause_back NoFunction named (no_name named) old mid bit own first (is_digit c.args.level c.args.high) c.and-whole.new.diagrams c.release.new.self c.and-whole.result c.release.ensures.nodes
    (cause_join true mid c.and-whole.new.diagrams bit c.args.rest.now (joined (join_of true) (function_at mid bit) (function_at mid c.args.rest.now)) NoFunction c.and-whole.result
    (is_root old mid bit own first) (root_added old mid bit own first c.args.rest.now c.requires.kept) c.and-whole.ensures)
