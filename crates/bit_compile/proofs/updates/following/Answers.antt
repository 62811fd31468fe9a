use Rattle.std.proofs.Common.{◌^◌, ℕ, length, map, List, sym, subst, ◌∙◌, rules, inl, inr}
use Rattle.std.proofs.lemmas.List.{length-map}
use Rattle.spec_model.specs.GameViews.{hidden_data}
use Rattle.spec_model.specs.Values.{DomainData, values_of, rank_of}
use Rattle.spec_model.specs.Diagrams.{Function}
use Rattle.game_values.specs.declared.seen.At.TheVariants.{Now}
use Rattle.bdd_bits.specs.Contents.{function_at}
use Rattle.bit_compile.specs.declared.cases.CaseRoot.{CaseRoot}
use Rattle.bit_compile.specs.Domains.{table_domain}
use Rattle.bit_compile.specs.Compiled.{Case, coded, led_to, lettered, is_code}
use Rattle.bit_compile.specs.CaseRoots.{AddsCases, MakesCases}
use Rattle.bit_compile.proofs.Between.{functions_stay}
use Rattle.bit_compile.proofs.Pairing.{others_kept, seen_are, seen_kept}
use Rattle.bit_compile.proofs.Causes.{cause_wider}
use Rattle.bit_compile.proofs.NamedCases.{named_wider}
use Rattle.bit_compile.proofs.Outcomes.{cases_among, cases_handed}
use Rattle.bit_compile.proofs.NamedFormulas.{either}
use Rattle.bit_compile.proofs.NamedSteps.{all_named}
use Rattle.bit_compile.specs.NamedCodes.{IsOfNumber}
use Rattle.bit_compile.specs.Named.{IsOfCoded, IsOfLettered, IsOfLed, IsOfFollowing}
use Rattle.bit_compile.specs.Crowding.{HasCause}
use Rattle.bit_compile.specs.Codes.{level_at, width_at}
use Rattle.bit_compile.proofs.updates.following.Goals as goal

pub led_by_atoms-cases-requires-clause-from_kept : goal.led_by_atoms-cases-requires-clause-from_kept
led_by_atoms-cases-requires-clause-from_kept c =
    let first = c.in_ok-from.ensures in
    seen_kept c.args.diagrams.now c.coded_cases.new.diagrams c.in_ok-from.from.items c.deref.result.now _ first.made first.leaves.keeps c.deref.ensures.value

pub led_by_atoms-cases-requires-clause-atoms_kept : goal.led_by_atoms-cases-requires-clause-atoms_kept
led_by_atoms-cases-requires-clause-atoms_kept c =
    let first = c.in_ok-from.ensures in
    others_kept c.args.diagrams.now c.coded_cases.new.diagrams c.in_ok-from.from.items c.deref.result.now _ first.made first.leaves.keeps c.deref.ensures.value c.args.atoms.now c.requires.kept

pub returns : goal.returns
returns c =
    let first = c.in_ok-from.ensures in
    let old = c.args.diagrams.now in
    let mid = c.coded_cases.new.diagrams in
    let from = c.in_ok-from.from.items in
    let seen = c.deref.result.now in
    let x = c.args.h.now in
    let h = hidden_data x in
    let ds = c.args.codes.now in
    let k = c.args.k in
    let d = table_domain h in
    let vs = values_of d in
    let atoms = c.args.atoms.now in
    let cs : List Case = coded ds Now k d in
    let fs = map (λ (a : CaseRoot). function_at old a.root) atoms in
    let gs = map (λ (a : CaseRoot). function_at mid a.root) atoms in
    let whole = c.led_by_atoms-cases.new.diagrams in
    let r = c.led_by_atoms-cases.result in
    let adds = subst (λ (e : DomainData). AddsCases old mid from (coded ds Now k e)) c.domain_of.ensures.domain first.made in
    let step : ℕ → List Case → List Function → Function → Type 0 = λ n xs hs. either (IsOfLettered hs) (IsOfLed h.next n xs (lettered hs) vs) in
    let made : ℕ → List Case → List Function → Type 0 = λ n xs hs. MakesCases mid whole r (led_to h.next n xs (lettered hs) vs) (step n xs hs) in
    let one = subst (λ (xs : List Case). made (2 ^ length x.atoms.items) xs gs) (seen_are old mid from seen cs adds first.leaves.keeps c.deref.ensures.value) c.led_by_atoms-cases.ensures in
    let two = subst (λ (hs : List Function). made (2 ^ length x.atoms.items) cs hs) (functions_stay old mid atoms first.leaves.keeps c.requires.kept) one in
    let then = subst (λ (n : ℕ). made (2 ^ n) cs fs) (sym c.requires.counted ∙ sym (length-map atoms (λ (a : CaseRoot). function_at old a.root))) two in
    let named = IsOfFollowing ds k h fs in
    let each = all_named vs (λ v. is_code ds Now k (rank_of d v)) (λ v. IsOfNumber (level_at ds Now k) (width_at ds k) (rank_of d v)) in
    cases_among old mid from seen cs adds first.leaves.keeps c.deref.ensures.value (step (2 ^ length fs) cs fs) named (λ f is. inr is) (named_wider (IsOfCoded ds Now k d) named (λ f is. inl is) cs each)
    whole c.release_all.new.diagrams c.release_all.ensures.released c.release_all.ensures.nodes r (led_to h.next (2 ^ length fs) cs (lettered fs) vs) then

pub returns-in_err-from : goal.returns-in_err-from
returns-in_err-from c =
    let old = c.args.diagrams.now in
    let new = c.coded_cases.new.diagrams in
    let ds = c.args.codes.now in
    let h = hidden_data c.args.h.now in
    let named = IsOfFollowing ds c.args.k h (map (λ (a : CaseRoot). function_at old a.root) c.args.atoms.now) in
    let handed = (cause_wider (IsOfCoded ds Now c.args.k (table_domain h)) named (λ f is. inl is) old new c.coded_cases.result
    (subst (λ (d : DomainData). HasCause old new c.coded_cases.result (IsOfCoded ds Now c.args.k d)) c.domain_of.ensures.domain c.coded_cases.ensures.cause)) in
    cases_handed old new c.coded_cases.result c.in_err-from.field-0.0 named c.in_err-from.was c.coded_cases.ensures.leaves handed c.from_residual.result _ (search rules)
