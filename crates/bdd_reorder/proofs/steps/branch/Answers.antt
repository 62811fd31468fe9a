use Rattle.std.proofs.Common.{◌≡◌, refl, ap, subst, Result, ℕ}
use Rattle.bdd_store.specs.declared.fault.StoreFault.{StoreFault}
use Rattle.spec_model.specs.Diagrams.{Bits, value, ite}
use Rattle.bdd_ops.specs.Contents.{function_at}
use Rattle.bdd_reorder.specs.Rearranged.{NoFunction, IsBit}
use Rattle.bdd_reorder.specs.Making.{MakesOne, branched}
use Rattle.bdd_reorder.proofs.StepLemmas.{given_back, fails_wider, err_is}
use Rattle.bdd_reorder.proofs.steps.branch.Goals as goal

pub returns-in_err-bit : goal.returns-in_err-bit
returns-in_err-bit c =
    let old = c.args.diagrams.now in
    let f = branched c.args.level (function_at old c.args.low.now) (function_at old c.args.high.now) in
    subst (λ (r : Result ℕ StoreFault). MakesOne old c.var.new.diagrams r f (IsBit c.args.level)) (err_is c.from_residual.result c.in_err-bit.field-0.0 c.from_residual.ensures.1)
    (fails_wider old c.var.new.diagrams c.in_err-bit.field-0.0 (λ (s : Bits). s c.args.level) f NoFunction (IsBit c.args.level) (λ k none. absurd none) c.in_err-bit.ensures)

pub returns : goal.returns
returns c =
    let old = c.args.diagrams.now in
    let mid = c.var.new.diagrams in
    let bit = c.in_ok-bit.bit in
    let first = c.in_ok-bit.ensures in
    let low : function_at mid c.args.low.now ≡ function_at old c.args.low.now = ap value (first.keeps.meaning c.args.low.now c.requires.low_kept) in
    let high : function_at mid c.args.high.now ≡ function_at old c.args.high.now = ap value (first.keeps.meaning c.args.high.now c.requires.high_kept) in
    let same : ite (function_at mid bit) (function_at mid c.args.high.now) (function_at mid c.args.low.now) ≡ branched c.args.level (function_at old c.args.low.now) (function_at old c.args.high.now) = rw (first.meaning, low, high) refl in
    given_back old mid c.ite-made.new.diagrams c.release.new.self bit c.ite-made.result (λ (s : Bits). s c.args.level) (ite (function_at mid bit) (function_at mid c.args.high.now) (function_at mid c.args.low.now)) (branched c.args.level (function_at old c.args.low.now) (function_at old c.args.high.now)) NoFunction NoFunction (IsBit c.args.level) refl (λ h none. absurd none) same c.release.ensures.released c.release.ensures.table first c.ite-made.ensures
