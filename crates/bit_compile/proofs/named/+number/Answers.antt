use Rattle.std.proofs.Common.{◌≡◌, ◌+◌, ◌-◌, ◌^◌, ◌<◌, ◌∙◌, subst, ap, arith, true, false, nat_le, cond, rules}
use Rattle.std.proofs.lemmas.Bool.{le-leb}
use Rattle.std.proofs.lemmas.Bool.Decides.{nat_tests}
use Rattle.spec_model.specs.Diagrams.{Bits, Diagram, Function}
use Rattle.bit_compile.specs.Codes.{has_number}
use Rattle.bit_compile.specs.Making.{Makes, with_digit, halted}
use Rattle.bit_compile.proofs.MakingLemmas.{given_back, told_makes, number_step, never_told}
use Rattle.bit_compile.proofs.Causes.{cause_back, cause_handed, cause_never, cause_wider}
use Rattle.bit_compile.proofs.NamedSteps.{number_whole, number_digit, number_rest}
use Rattle.bit_compile.specs.NamedCodes.{IsDigit, IsOfNumber}
use Rattle.bit_compile.proofs.named.+number.Goals as goal
use Rattle.bit_compile.proofs.named.+number.Goals.{then-high, else-high}

pub returns-then-width-eq0-clause-made : goal.returns-then-width-eq0-clause-made
returns-then-width-eq0-clause-made t c = rw (c.told.ensures, c.if-width-eq0.true) (told_makes c.args.diagrams.now c.constant.new.self c.constant.result (λ (s : Bits). true) (λ (made : Diagram). ⊥) c.constant.ensures.given)

pub returns-clause-made : goal.returns-clause-made
returns-clause-made t c =
    let first = c.in_ok-rest.ensures.made in
    let mid = c.number.new.diagrams in
    let high = nat_le c.power-half.result c.args.n in
    let some : 0 < c.args.width = omega (arith, c.if-width-eq0.false) in
    let half = ap (λ k. nat_le k c.args.n) c.power-half.ensures in
    let left : c.if-high.left ≡ cond high (c.args.n - 2 ^ (c.args.width - 1)) c.args.n = elim c.if-high.branch [
      | then-high w ↦ (let here : high ≡ true = le-leb c.power-half.result c.args.n w.if-high.true in rw here (w.left-is ∙ ap (λ k. c.args.n - k) c.power-half.ensures))
      | else-high w ↦ (let small = w.if-high.false in let here : high ≡ false = grind (arith, nat_tests) in rw here w.left-is)
    ] in
    let is = ap (with_digit c.args.level high) first.meaning ∙ number_step c.args.level c.args.width c.args.n c.if-high.left high some half left in
    let made = subst (λ (g : Function). Makes mid c.digit_and-whole.new.diagrams c.digit_and-whole.result g) is c.digit_and-whole.ensures.made in
    given_back c.args.diagrams.now mid c.digit_and-whole.new.diagrams c.release.new.self c.in_ok-rest.rest (has_number (c.args.level + 1) (c.args.width - 1) c.if-high.left) (has_number c.args.level c.args.width c.args.n) first c.release.ensures.released c.release.ensures.nodes c.digit_and-whole.result made

pub returns-then-width-eq0-clause-cause : goal.returns-then-width-eq0-clause-cause
returns-then-width-eq0-clause-cause t c =
    rw c.told.ensures (cause_never c.args.diagrams.now c.constant.new.self (halted c.constant.result) (IsOfNumber c.args.level c.args.width c.args.n) (never_told c.constant.result c.constant.ensures.full))

pub returns-in_err-rest-clause-cause : goal.returns-in_err-rest-clause-cause
returns-in_err-rest-clause-cause t c =
    let some : 0 < c.args.width = omega (arith, c.if-width-eq0.false) in
    let high = nat_le c.power-half.result c.args.n in
    let half = ap (λ k. nat_le k c.args.n) c.power-half.ensures in
    let left : c.if-high.left ≡ cond high (c.args.n - 2 ^ (c.args.width - 1)) c.args.n = elim c.if-high.branch [
      | then-high w ↦ (let here : high ≡ true = le-leb c.power-half.result c.args.n w.if-high.true in rw here (w.left-is ∙ ap (λ k. c.args.n - k) c.power-half.ensures))
      | else-high w ↦ (let small = w.if-high.false in let here : high ≡ false = grind (arith, nat_tests) in rw here w.left-is)
    ] in
    let rest = IsOfNumber (c.args.level + 1) (c.args.width - 1) c.if-high.left in
    let named = IsOfNumber c.args.level c.args.width c.args.n in
    let deeper : (f : Function) → rest f → named f = λ f is. number_rest c.args.level c.args.width c.args.n c.if-high.left high f some half left is in
    let old = c.args.diagrams.now in
    let new = c.number.new.diagrams in
    cause_handed old new c.number.result c.from_residual.result c.in_err-rest.field-0.0 named c.in_err-rest.was (search rules) (cause_wider rest named deeper old new c.number.result c.number.ensures.cause)

pub returns-clause-cause : goal.returns-clause-cause
returns-clause-cause t c =
    let some : 0 < c.args.width = omega (arith, c.if-width-eq0.false) in
    let high = nat_le c.power-half.result c.args.n in
    let half = ap (λ k. nat_le k c.args.n) c.power-half.ensures in
    let left : c.if-high.left ≡ cond high (c.args.n - 2 ^ (c.args.width - 1)) c.args.n = elim c.if-high.branch [
      | then-high w ↦ (let here : high ≡ true = le-leb c.power-half.result c.args.n w.if-high.true in rw here (w.left-is ∙ ap (λ k. c.args.n - k) c.power-half.ensures))
      | else-high w ↦ (let small = w.if-high.false in let here : high ≡ false = grind (arith, nat_tests) in rw here w.left-is)
    ] in
    let rest = IsOfNumber (c.args.level + 1) (c.args.width - 1) c.if-high.left in
    let named = IsOfNumber c.args.level c.args.width c.args.n in
    let deeper : (f : Function) → rest f → named f = λ f is. number_rest c.args.level c.args.width c.args.n c.if-high.left high f some half left is in
    let whole : Function = has_number (c.args.level + 1) (c.args.width - 1) c.if-high.left in
    cause_back (IsDigit c.args.level) named (λ f is. number_digit c.args.level c.args.width c.args.n f some is) c.args.diagrams.now c.number.new.diagrams c.in_ok-rest.rest whole c.in_ok-rest.ensures.made
    (deeper whole (number_whole (c.args.level + 1) (c.args.width - 1) c.if-high.left)) c.digit_and-whole.new.diagrams c.release.new.self c.digit_and-whole.result c.release.ensures.nodes c.digit_and-whole.ensures.cause
