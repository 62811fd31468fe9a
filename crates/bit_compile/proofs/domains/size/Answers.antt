use Rattle.std.proofs.Common.{◌≡◌, ◌+◌, ◌-ℤ◌, nat_abs, sym, ap, ◌∙◌, subst, rules, w64, FitsSigned}
use Rattle.std.proofs.lemmas.Int.{to_z-of_z}
use Rattle.spec_model.specs.Views.{domain_data}
use Rattle.spec_model.specs.Sizes.{domain_size}
use Rattle.bit_compile.specs.Laid.{IsCountable}
use Rattle.bit_compile.proofs.DomainLemmas.{size-whole}
use Rattle.bit_compile.proofs.domains.size.Goals as goal

pub returns-in-Range : goal.returns-in-Range
returns-in-Range c =
    let lo : FitsSigned w64 c.in-Range.lo = search rules in
    let hi : FitsSigned w64 c.in-Range.hi = search rules in
    let spans : c.span.result ≡ nat_abs (c.in-Range.hi -ℤ c.in-Range.lo) + 1 = rw (to_z-of_z w64 c.in-Range.hi hi, to_z-of_z w64 c.in-Range.lo lo) at c.span.ensures in
    let countable = subst (λ d. IsCountable (domain_data d)) c.in-Range.is c.requires in
    spans ∙ sym (ap (λ d. domain_size (domain_data d)) c.in-Range.is ∙ size-whole c.in-Range.lo c.in-Range.hi countable.0)
