use Rattle.std.proofs.Common.{◌≡◌, ◌+◌, ◌-◌, ◌^◌, ◌<◌, ◌∙◌, subst, ap, arith, true, false, not, nat_le, cond}
use Rattle.std.proofs.lemmas.Bool.{le-leb}
use Rattle.std.proofs.lemmas.Bool.Decides.{nat_tests}
use Rattle.spec_model.specs.Diagrams.{Function}
use Rattle.bdd_ops.specs.Functions.{joined, join_of}
use Rattle.bit_compile.specs.Making.{Makes, digit}
use Rattle.bit_compile.specs.Bounds.{is_below}
use Rattle.bit_compile.proofs.MakingLemmas.{given_back}
use Rattle.bit_compile.proofs.BoundLemmas.{bound_step}
use Rattle.bit_compile.proofs.bounds.+number_below.Goals as goal
use Rattle.bit_compile.proofs.bounds.+number_below.Goals.{then-high, else-high}

pub returns-then-width-eq0 : goal.returns-then-width-eq0
returns-then-width-eq0 t c = rw c.if-width-eq0.true c.constant.ensures.made

pub returns : goal.returns
returns t c =
    let first = c.in_ok-rest.ensures in
    let old = c.args.diagrams.now in
    let mid = c.number_below.new.diagrams in
    let level = c.args.level in
    let width = c.args.width in
    let n = c.args.n in
    let high = nat_le c.power-half.result n in
    let some : 0 < width = omega (arith, c.if-width-eq0.false) in
    let half = ap (λ k. nat_le k n) c.power-half.ensures in
    let left : c.if-high.left ≡ cond high (n - 2 ^ (width - 1)) n = elim c.if-high.branch [
      | then-high w ↦ (let here : high ≡ true = le-leb c.power-half.result n w.if-high.true in rw here (w.left-is ∙ ap (λ k. n - k) c.power-half.ensures))
      | else-high w ↦ (let small = w.if-high.false in let here : high ≡ false = grind (arith, nat_tests) in rw here w.left-is)
    ] in
    let is = ap (λ (f : Function). joined (join_of (not high)) (digit level false) f) first.meaning ∙ bound_step level width n c.if-high.left high some half left in
    let made = subst (λ (g : Function). Makes mid c.low_with-whole.new.diagrams c.low_with-whole.result g) is c.low_with-whole.ensures in
    given_back old mid c.low_with-whole.new.diagrams c.release.new.self c.in_ok-rest.rest (is_below (level + 1) (width - 1) c.if-high.left) (is_below level width n) first c.release.ensures.released c.release.ensures.nodes c.low_with-whole.result made
