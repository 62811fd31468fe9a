use Rattle.std.proofs.Common.{List, subst, rules, inl, inr}
use Rattle.spec_model.specs.GameViews.{hidden_data}
use Rattle.spec_model.specs.Values.{DomainData, same_value, values_of, rank_of}
use Rattle.game_values.specs.declared.seen.At.TheVariants.{Next}
use Rattle.bit_compile.specs.Domains.{table_domain}
use Rattle.bit_compile.specs.Compiled.{Case, coded, some_pair, is_code}
use Rattle.bit_compile.specs.CaseRoots.{AddsCases, cases_at}
use Rattle.bit_compile.proofs.Between.{cases_stay}
use Rattle.bit_compile.proofs.Pairing.{others_kept, seen_are, seen_kept}
use Rattle.bit_compile.proofs.Causes.{cause_wider}
use Rattle.bit_compile.proofs.Outcomes.{named_among, named_handed}
use Rattle.bit_compile.proofs.NamedCases.{named_wider}
use Rattle.bit_compile.proofs.NamedFormulas.{either}
use Rattle.bit_compile.proofs.NamedSteps.{all_named}
use Rattle.bit_compile.specs.NamedCodes.{IsOfNumber}
use Rattle.bit_compile.specs.Named.{IsOfCoded, IsOfPairs}
use Rattle.bit_compile.specs.Crowding.{HasCause, MakesNamed}
use Rattle.bit_compile.specs.Codes.{level_at, width_at}
use Rattle.bit_compile.proofs.updates.next_among.Goals as goal

pub pair_root-root-requires-clause-xs_kept : goal.pair_root-root-requires-clause-xs_kept
pair_root-root-requires-clause-xs_kept c =
    let first = c.in_ok-next.ensures in
    seen_kept c.args.diagrams.now c.coded_cases.new.diagrams c.in_ok-next.next.items c.deref.result.now _ first.made first.leaves.keeps c.deref.ensures.value

pub pair_root-root-requires-clause-ys_kept : goal.pair_root-root-requires-clause-ys_kept
pair_root-root-requires-clause-ys_kept c =
    let first = c.in_ok-next.ensures in
    others_kept c.args.diagrams.now c.coded_cases.new.diagrams c.in_ok-next.next.items c.deref.result.now _ first.made first.leaves.keeps c.deref.ensures.value c.args.cases.now c.requires.kept

pub returns-in_err-next : goal.returns-in_err-next
returns-in_err-next c =
    let old = c.args.diagrams.now in
    let new = c.coded_cases.new.diagrams in
    let ds = c.args.codes.now in
    let k = c.args.k in
    let d = table_domain (hidden_data c.args.h.now) in
    let named = either (IsOfCoded ds Next k d) (IsOfPairs same_value (coded ds Next k d) (cases_at old c.args.cases.now)) in
    let cause = cause_wider (IsOfCoded ds Next k d) named (λ f is. inl is) old new c.coded_cases.result
    (subst (λ (e : DomainData). HasCause old new c.coded_cases.result (IsOfCoded ds Next k e)) c.domain_of.ensures.domain c.coded_cases.ensures.cause) in
    named_handed old new c.coded_cases.result c.in_err-next.field-0.0 named c.in_err-next.was c.coded_cases.ensures.leaves cause c.from_residual.result _ (search rules)

pub returns : goal.returns
returns c =
    let first = c.in_ok-next.ensures in
    let old = c.args.diagrams.now in
    let mid = c.coded_cases.new.diagrams in
    let next = c.in_ok-next.next.items in
    let seen = c.deref.result.now in
    let ds = c.args.codes.now in
    let k = c.args.k in
    let d = table_domain (hidden_data c.args.h.now) in
    let cs : List Case = coded ds Next k d in
    let kept = c.args.cases.now in
    let whole = c.pair_root-root.new.diagrams in
    let r = c.pair_root-root.result in
    let adds = subst (λ (e : DomainData). AddsCases old mid next (coded ds Next k e)) c.domain_of.ensures.domain first.made in
    let made : List Case → List Case → Type 0 = λ xs ys. MakesNamed mid whole r (some_pair same_value xs ys) (IsOfPairs same_value xs ys) in
    let one = subst (λ (xs : List Case). made xs (cases_at mid kept)) (seen_are old mid next seen cs adds first.leaves.keeps c.deref.ensures.value) c.pair_root-root.ensures in
    let both = subst (made cs) (cases_stay old mid kept first.leaves.keeps c.requires.kept) one in
    let step = IsOfPairs same_value cs (cases_at old kept) in
    let named = either (IsOfCoded ds Next k d) step in
    let each = all_named (values_of d) (λ v. is_code ds Next k (rank_of d v)) (λ v. IsOfNumber (level_at ds Next k) (width_at ds k) (rank_of d v)) in
    named_among old mid next seen cs adds first.leaves.keeps c.deref.ensures.value step named (λ f is. inr is) (named_wider (IsOfCoded ds Next k d) named (λ f is. inl is) cs each)
    whole c.release_all.new.diagrams c.release_all.ensures.released c.release_all.ensures.nodes r (some_pair same_value cs (cases_at old kept)) both
