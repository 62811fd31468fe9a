use Rattle.bdd_bits.specs.Contents.{function_at}
use Rattle.std.proofs.Common.{subst, false, rules, inl, refl}
use Rattle.spec_model.specs.Diagrams.{Bits, Function}
use Rattle.bdd_ops.specs.Calls.{negated}
use Rattle.bit_compile.specs.Making.{Makes, digit}
use Rattle.bit_compile.proofs.MakingLemmas.{given_back, is_root}
use Rattle.bit_compile.proofs.Causes.{cause_bit, cause_not, cause_back, cause_handed, cause_ok, no_name}
use Rattle.bit_compile.specs.NamedCodes.{IsDigit, NoFunction}
use Rattle.bit_compile.proofs.named.digit_root.Goals as goal

pub returns-then-high-clause-made : goal.returns-then-high-clause-made
returns-then-high-clause-made c = rw c.if-high.true c.in_ok-bit.ensures.makes

pub returns-clause-made : goal.returns-clause-made
returns-clause-made c =
    let first = c.in_ok-bit.ensures.makes in
    let made = subst (λ (g : Function). Makes c.var.new.diagrams c.not-low.new.diagrams c.not-low.result (negated g)) first.meaning c.not-low.ensures.makes in
    rw c.if-high.false (given_back c.args.diagrams.now c.var.new.diagrams c.not-low.new.diagrams c.release.new.self c.in_ok-bit.bit (λ (s : Bits). s c.args.level) (digit c.args.level false) first c.release.ensures.released c.release.ensures.nodes c.not-low.result made)

pub returns-in_err-bit-clause-cause : goal.returns-in_err-bit-clause-cause
returns-in_err-bit-clause-cause c =
    let old = c.args.diagrams.now in
    let new = c.var.new.diagrams in
    let named = IsDigit c.args.level in
    cause_handed old new c.var.result c.from_residual.result c.in_err-bit.field-0.0 named c.in_err-bit.was (search rules)
    (cause_bit old new c.args.level (λ (s : Bits). s c.args.level) named c.var.result c.var.ensures)

pub returns-then-high-clause-cause : goal.returns-then-high-clause-cause
returns-then-high-clause-cause c = cause_ok c.args.diagrams.now c.var.new.diagrams c.in_ok-bit.bit (IsDigit c.args.level)

pub returns-clause-cause : goal.returns-clause-cause
returns-clause-cause c =
    let old = c.args.diagrams.now in
    let mid = c.var.new.diagrams in
    let named = IsDigit c.args.level in
    let bit : Function = λ s. s c.args.level in
    let first = c.in_ok-bit.ensures.makes in
    cause_back NoFunction named (no_name named) old mid c.in_ok-bit.bit bit first (inl refl) c.not-low.new.diagrams c.release.new.self c.not-low.result c.release.ensures.nodes
    (cause_not mid c.not-low.new.diagrams c.in_ok-bit.bit (negated (function_at mid c.in_ok-bit.bit)) NoFunction c.not-low.result (is_root old mid c.in_ok-bit.bit bit first) c.not-low.ensures)
