use Rattle.std.proofs.Common.{◌&&◌, ◌∙◌, List, ap, map, subst, sym, rules, inl, inr}
use Rattle.spec_model.specs.Values.{DomainData, values_of, rank_of}
use Rattle.spec_model.specs.Diagrams.{Bits, Function}
use Rattle.bdd_bits.specs.Contents.{function_at}
use Rattle.bit_compile.specs.declared.cases.CaseRoot.{CaseRoot}
use Rattle.bit_compile.specs.CaseRoots.{AddsCases}
use Rattle.bit_compile.specs.Compiled.{Case, coded, some_of, is_code}
use Rattle.bit_compile.specs.Codes.{domain_in, level_at, width_at}
use Rattle.bit_compile.proofs.Between.{function_stays}
use Rattle.bit_compile.proofs.EntryLemmas.{holds_at_roots}
use Rattle.bit_compile.proofs.Pairing.{made_together, made_through, other_kept, seen_are, seen_kept}
use Rattle.bit_compile.proofs.Causes.{cause_among, cause_handed, cause_wider}
use Rattle.bit_compile.proofs.NamedCases.{named_wider}
use Rattle.bit_compile.proofs.NamedSteps.{all_named}
use Rattle.bit_compile.specs.NamedCodes.{IsOfNumber}
use Rattle.bit_compile.specs.Named.{IsOfCoded, IsFirstOf, IsOfSlot}
use Rattle.bit_compile.specs.Crowding.{HasCause}
use Rattle.bit_compile.specs.declared.folds.Fold.TheVariants.{Some}
use Rattle.bit_compile.proofs.proper.and_each_code.Goals as goal

pub and_some-whole-requires-clause-first_kept : goal.and_some-whole-requires-clause-first_kept
and_some-whole-requires-clause-first_kept c =
    let first = c.in_ok-cases.ensures in
    other_kept c.args.diagrams.now c.coded_cases.new.diagrams c.in_ok-cases.cases.items c.deref.result.now _ first.made first.leaves.keeps c.deref.ensures.value c.args.product.now c.requires.kept

pub and_some-whole-requires-clause-kept : goal.and_some-whole-requires-clause-kept
and_some-whole-requires-clause-kept c =
    let first = c.in_ok-cases.ensures in
    seen_kept c.args.diagrams.now c.coded_cases.new.diagrams c.in_ok-cases.cases.items c.deref.result.now _ first.made first.leaves.keeps c.deref.ensures.value

pub release_all-requires : goal.release_all-requires
release_all-requires c =
    let first = c.in_ok-cases.ensures in
    made_together c.args.diagrams.now c.coded_cases.new.diagrams c.in_ok-cases.cases.items c.deref.result.now _ first.made first.leaves.keeps c.deref.ensures.value c.and_some-whole.new.diagrams c.and_some-whole.result _ c.and_some-whole.ensures.made

pub returns-clause-made : goal.returns-clause-made
returns-clause-made c =
    let first = c.in_ok-cases.ensures in
    let old = c.args.diagrams.now in
    let mid = c.coded_cases.new.diagrams in
    let xs = c.in_ok-cases.cases.items in
    let seen = c.deref.result.now in
    let ds = c.args.codes.now in
    let n = c.args.product.now in
    let cs = coded ds c.args.at c.args.k (domain_in ds c.args.k) in
    let adds = subst (λ (d : DomainData). AddsCases old mid xs (coded ds c.args.at c.args.k d)) c.domain.ensures.domain first.made in
    let had = sym (holds_at_roots mid seen) ∙ ap (map (λ (d : Case). d.holds)) (seen_are old mid xs seen cs adds first.leaves.keeps c.deref.ensures.value) in
    let is = ap (λ (f : Function). (λ (s : Bits). f s && some_of (map (λ (x : CaseRoot). function_at mid x.root) seen) s)) (function_stays old mid n first.leaves.keeps c.requires.kept)
    ∙ ap (λ (fs : List Function). (λ (s : Bits). function_at old n s && some_of fs s)) had in
    made_through old mid xs seen cs adds first.leaves.keeps c.deref.ensures.value
    c.and_some-whole.new.diagrams c.release_all.new.diagrams c.release_all.ensures.released c.release_all.ensures.nodes c.and_some-whole.result _ _ c.and_some-whole.ensures.made is

pub returns-in_err-cases-clause-cause : goal.returns-in_err-cases-clause-cause
returns-in_err-cases-clause-cause c =
    let old = c.args.diagrams.now in
    let new = c.coded_cases.new.diagrams in
    let ds = c.args.codes.now in
    let k = c.args.k in
    let named = IsOfSlot ds c.args.at k in
    cause_handed old new c.coded_cases.result c.from_residual.result c.in_err-cases.field-0.0 named c.in_err-cases.was (search rules)
    (cause_wider (IsOfCoded ds c.args.at k (domain_in ds k)) named (λ f is. inl is) old new c.coded_cases.result
    (subst (λ (d : DomainData). HasCause old new c.coded_cases.result (IsOfCoded ds c.args.at k d)) c.domain.ensures.domain c.coded_cases.ensures.cause))

pub returns-clause-cause : goal.returns-clause-cause
returns-clause-cause c =
    let first = c.in_ok-cases.ensures in
    let old = c.args.diagrams.now in
    let mid = c.coded_cases.new.diagrams in
    let xs = c.in_ok-cases.cases.items in
    let seen = c.deref.result.now in
    let ds = c.args.codes.now in
    let at = c.args.at in
    let k = c.args.k in
    let d = domain_in ds k in
    let cs = coded ds at k d in
    let adds = subst (λ (e : DomainData). AddsCases old mid xs (coded ds at k e)) c.domain.ensures.domain first.made in
    let had = sym (holds_at_roots mid seen) ∙ ap (map (λ (x : Case). x.holds)) (seen_are old mid xs seen cs adds first.leaves.keeps c.deref.ensures.value) in
    let whole = c.and_some-whole.new.diagrams in
    let r = c.and_some-whole.result in
    let one = subst (λ (fs : List Function). HasCause mid whole r (IsFirstOf Some fs)) had c.and_some-whole.ensures.cause in
    let named = IsOfSlot ds at k in
    let each = all_named (values_of d) (λ v. is_code ds at k (rank_of d v)) (λ v. IsOfNumber (level_at ds at k) (width_at ds k) (rank_of d v)) in
    cause_among (IsFirstOf Some (map (λ (x : Case). x.holds) cs)) named (λ f is. inr is) old mid xs cs adds first.leaves.keeps (named_wider (IsOfCoded ds at k d) named (λ f is. inl is) cs each) whole c.release_all.new.diagrams r c.release_all.ensures.nodes one
