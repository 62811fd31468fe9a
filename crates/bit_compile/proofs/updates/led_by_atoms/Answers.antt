use Rattle.std.proofs.Common.{◌^◌, length, List, rules, inl, inr, map, subst, nat_abs}
use Rattle.spec_model.specs.GameViews.{hidden_data}
use Rattle.spec_model.specs.Values.{values_of, number_of}
use Rattle.bit_compile.specs.Domains.{table_domain}
use Rattle.bit_compile.specs.Compiled.{Case, led_to, numbers_below, is_letter, lettered}
use Rattle.bit_compile.specs.CaseRoots.{MakesCases, cases_at}
use Rattle.bit_compile.proofs.Between.{cases_stay}
use Rattle.bit_compile.proofs.Pairing.{others_kept, seen_are, seen_kept}
use Rattle.bit_compile.proofs.Causes.{cause_wider}
use Rattle.bit_compile.proofs.NamedCases.{named_wider}
use Rattle.bit_compile.proofs.Outcomes.{cases_among, cases_handed}
use Rattle.bit_compile.proofs.NamedFormulas.{either}
use Rattle.bit_compile.proofs.NamedSteps.{all_named}
use Rattle.bit_compile.specs.Named.{IsOfLettered, IsOfLetter, IsOfLed}
use Rattle.bit_compile.specs.declared.cases.CaseRoot.{CaseRoot}
use Rattle.bdd_bits.specs.Contents.{function_at}
use Rattle.bit_compile.proofs.updates.led_by_atoms.Goals as goal

pub led_cases-cases-requires-clause-from_kept : goal.led_cases-cases-requires-clause-from_kept
led_cases-cases-requires-clause-from_kept c =
    let first = c.in_ok-by.ensures in
    others_kept c.args.diagrams.now c.letter_cases.new.diagrams c.in_ok-by.by.items c.deref.result.now _ first.made first.leaves.keeps c.deref.ensures.value c.args.from.now c.requires.from_kept

pub led_cases-cases-requires-clause-by_kept : goal.led_cases-cases-requires-clause-by_kept
led_cases-cases-requires-clause-by_kept c =
    let first = c.in_ok-by.ensures in
    seen_kept c.args.diagrams.now c.letter_cases.new.diagrams c.in_ok-by.by.items c.deref.result.now _ first.made first.leaves.keeps c.deref.ensures.value

pub returns : goal.returns
returns c =
    let first = c.in_ok-by.ensures in
    let old = c.args.diagrams.now in
    let mid = c.letter_cases.new.diagrams in
    let by = c.in_ok-by.by.items in
    let seen = c.deref.result.now in
    let kept = c.args.from.now in
    let h = c.args.h.now in
    let n = 2 ^ length h.atoms.items in
    let vs = values_of (table_domain (hidden_data h)) in
    let fs = map (λ (a : CaseRoot). function_at old a.root) c.args.atoms.now in
    let letters : List Case = lettered fs in
    let whole = c.led_cases-cases.new.diagrams in
    let r = c.led_cases-cases.result in
    let made : List Case → List Case → Type 0 = λ xs ys. MakesCases mid whole r (led_to h.next.items n xs ys vs) (IsOfLed h.next.items n xs ys vs) in
    let one = subst (λ (xs : List Case). made xs (cases_at mid seen)) (cases_stay old mid kept first.leaves.keeps c.requires.from_kept) c.led_cases-cases.ensures in
    let both = subst (made (cases_at old kept)) (seen_are old mid by seen letters first.made first.leaves.keeps c.deref.ensures.value) one in
    let step = IsOfLed h.next.items n (cases_at old kept) letters vs in
    let named = either (IsOfLettered fs) step in
    let each = all_named (values_of (numbers_below (2 ^ length fs))) (λ v. is_letter fs (nat_abs (number_of v))) (λ v. IsOfLetter fs (nat_abs (number_of v))) in
    cases_among old mid by seen letters first.made first.leaves.keeps c.deref.ensures.value step named (λ f is. inr is) (named_wider (IsOfLettered fs) named (λ f is. inl is) letters each)
    whole c.release_all.new.diagrams c.release_all.ensures.released c.release_all.ensures.nodes r (led_to h.next.items n (cases_at old kept) letters vs) both

pub returns-in_err-by : goal.returns-in_err-by
returns-in_err-by c =
    let old = c.args.diagrams.now in
    let new = c.letter_cases.new.diagrams in
    let h = c.args.h.now in
    let fs = map (λ (a : CaseRoot). function_at old a.root) c.args.atoms.now in
    let step = IsOfLed h.next.items (2 ^ length h.atoms.items) (cases_at old c.args.from.now) (lettered fs) (values_of (table_domain (hidden_data h))) in
    let named = either (IsOfLettered fs) step in
    let handed = (cause_wider (IsOfLettered fs) named (λ f is. inl is) old new c.letter_cases.result c.letter_cases.ensures.cause) in
    cases_handed old new c.letter_cases.result c.in_err-by.field-0.0 named c.in_err-by.was c.letter_cases.ensures.leaves handed c.from_residual.result _ (search rules)
