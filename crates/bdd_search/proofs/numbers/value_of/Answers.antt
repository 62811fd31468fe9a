use Rattle.std.proofs.Common.{◌<◌, length, sym, ◌∙◌, ap, subst, rules, w64, FitsSigned, arith}
use Rattle.std.proofs.lemmas.Int.{to_z-of_z}
use Rattle.spec_model.specs.declared.value.Value.TheVariants as value
use Rattle.spec_model.specs.Views.{domain_data}
use Rattle.spec_model.specs.Values.{values_of}
use Rattle.bit_compile.specs.Laid.{IsCountable}
use Rattle.bdd_search.proofs.ReadLemmas.{whole_at, whole_within}
use Rattle.bdd_search.proofs.numbers.value_of.Goals as goal

pub whole-requires-clause-within : goal.whole-requires-clause-within
whole-requires-clause-within c =
    let lo : FitsSigned w64 c.in-Range.lo = search rules in
    let hi : FitsSigned w64 c.in-Range.hi = search rules in
    let countable = subst (λ d. IsCountable (domain_data d)) c.in-Range.is c.requires in
    let size = c.size.ensures in
    let below : c.args.n < length (values_of (domain_data c.args.domain.now)) = omega (arith, size, c.if-n-size.false) in
    let below' = subst (λ d. c.args.n < length (values_of (domain_data d))) c.in-Range.is below in
    rw (to_z-of_z w64 c.in-Range.lo lo, to_z-of_z w64 c.in-Range.hi hi) (whole_within c.in-Range.lo c.in-Range.hi c.args.n countable.0 below')

pub returns-in-Range : goal.returns-in-Range
returns-in-Range c = λ below.
    let lo : FitsSigned w64 c.in-Range.lo = search rules in
    let result : FitsSigned w64 c.whole.result = search rules in
    let countable = subst (λ d. IsCountable (domain_data d)) c.in-Range.is c.requires in
    let below' = subst (λ d. c.args.n < length (values_of (domain_data d))) c.in-Range.is below in
    let far = rw (to_z-of_z w64 c.in-Range.lo lo) at c.whole.ensures in
    rw c.in-Range.is (ap value.Int (to_z-of_z w64 c.whole.result result ∙ far) ∙ sym (whole_at c.in-Range.lo c.in-Range.hi c.args.n countable.0 below'))
