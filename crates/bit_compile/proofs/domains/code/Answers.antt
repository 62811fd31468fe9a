use Rattle.std.proofs.Common.{◌≡◌, true, sym, ◌∙◌, subst, rules, w64, FitsSigned}
use Rattle.std.proofs.lemmas.Bool.{false≢true}
use Rattle.std.proofs.lemmas.Int.{to_z-of_z}
use Rattle.std.specs.List.{list_any}
use Rattle.spec_model.specs.Views.{domain_data}
use Rattle.spec_model.specs.Values.{same_value, values_of, WholeNumbers}
use Rattle.spec_model.proofs.Domains.{none_in_range, none_named, no_number, no_name, in_range}
use Rattle.bit_compile.proofs.DomainLemmas.{place-whole, place-names}
use Rattle.bit_compile.proofs.domains.code.Goals as goal

pub offset-requires-clause-within : goal.offset-requires-clause-within
offset-requires-clause-within c =
    let z : FitsSigned w64 c.in-Int-value.z = search rules in
    let lo : FitsSigned w64 c.in-Range.lo = search rules in
    let hi : FitsSigned w64 c.in-Range.hi = search rules in
    let of_domain = subst (λ d. list_any (same_value c.args.value) (values_of (domain_data d)) ≡ true) c.in-Range.is c.requires.among in
    let among = subst (λ v. list_any (same_value v) (values_of (WholeNumbers c.in-Range.lo c.in-Range.hi)) ≡ true) c.in-Int-value.is of_domain in
    rw (to_z-of_z w64 c.in-Int-value.z z, to_z-of_z w64 c.in-Range.lo lo, to_z-of_z w64 c.in-Range.hi hi) ((in_range c.in-Int-value.z c.in-Range.lo c.in-Range.hi).0 among)

pub unreachable-requires-in-Bool-value : goal.unreachable-requires-in-Bool-value
unreachable-requires-in-Bool-value c =
    let among = subst (λ d. list_any (same_value c.args.value) (values_of (domain_data d)) ≡ true) c.in-Range.is c.requires.among in
    absurd (false≢true (sym (none_in_range c.args.value (no_number c.args.value c.in-Bool-value.is) c.in-Range.lo c.in-Range.hi) ∙ among))

pub unreachable-requires-in-Bool-value-2 : goal.unreachable-requires-in-Bool-value-2
unreachable-requires-in-Bool-value-2 c =
    let among = subst (λ d. list_any (same_value c.args.value) (values_of (domain_data d)) ≡ true) c.in-Names.is c.requires.among in
    absurd (false≢true (sym (none_named c.args.value (no_name c.args.value c.in-Bool-value-2.is) c.in-Names.names.items) ∙ among))

pub returns-in-Int-value : goal.returns-in-Int-value
returns-in-Int-value c =
    let z : FitsSigned w64 c.in-Int-value.z = search rules in
    let lo : FitsSigned w64 c.in-Range.lo = search rules in
    let of_domain = subst (λ d. list_any (same_value c.args.value) (values_of (domain_data d)) ≡ true) c.in-Range.is c.requires.among in
    let among = subst (λ v. list_any (same_value v) (values_of (WholeNumbers c.in-Range.lo c.in-Range.hi)) ≡ true) c.in-Int-value.is of_domain in
    let within = (in_range c.in-Int-value.z c.in-Range.lo c.in-Range.hi).0 among in
    let far = rw (to_z-of_z w64 c.in-Int-value.z z, to_z-of_z w64 c.in-Range.lo lo) at c.offset.ensures in
    rw (c.in-Range.is, c.in-Int-value.is) (far ∙ sym (place-whole c.in-Range.lo c.in-Range.hi c.in-Int-value.z within.0 within.1))

pub returns-in-Name : goal.returns-in-Name
returns-in-Name c = rw (c.in-Names.is, c.in-Name.is) (c.place.ensures ∙ rw c.deref.ensures.value (sym (place-names c.in-Name.n c.in-Names.names.items)))
