use Rattle.std.proofs.Common.{◌≡◌, ◌+◌, ◌-ℤ◌, nat_abs, sym, ap, ◌∙◌, subst, length, true, rules, w64, FitsSigned}
use Rattle.std.proofs.lemmas.Int.{to_z-of_z}
use Rattle.spec_model.specs.Values.{values_of}
use Rattle.spec_model.specs.Views.{domain_data}
use Rattle.spec_model.specs.WellMade.{is_domain}
use Rattle.game_states.proofs.Counts.{length-whole}
use Rattle.pattern_rows.proofs.choices.domain_size.Goals as goal

pub returns-in-Range : goal.returns-in-Range
returns-in-Range c =
    let lo : FitsSigned w64 c.in-Range.lo = search rules in
    let hi : FitsSigned w64 c.in-Range.hi = search rules in
    let spans : c.span.result ≡ nat_abs (c.in-Range.hi -ℤ c.in-Range.lo) + 1 = rw (to_z-of_z w64 c.in-Range.hi hi, to_z-of_z w64 c.in-Range.lo lo) at c.span.ensures in
    spans ∙ sym (ap (λ d. length (values_of (domain_data d))) c.in-Range.is ∙ length-whole c.in-Range.lo c.in-Range.hi (subst (λ d. is_domain (domain_data d) ≡ true) c.in-Range.is c.requires))
