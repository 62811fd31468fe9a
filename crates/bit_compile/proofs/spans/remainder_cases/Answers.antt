use Rattle.std.proofs.Common.{ℤ, List, [], ◌∷◌, map, refl, sym, subst, w64, rules, inl, inr}
use Rattle.std.proofs.lemmas.Int.{to_z-of_z}
use Rattle.spec_model.specs.declared.value.Value.{Value}
use Rattle.spec_model.specs.declared.value.Value.TheVariants as value
use Rattle.bit_compile.specs.declared.operation.Operation.TheVariants.{Mod}
use Rattle.bit_compile.specs.declared.cases.CaseRoot.{CaseRoot}
use Rattle.bit_compile.specs.CaseRoots.{AddsCases, cases_at, had_by}
use Rattle.bit_compile.specs.Laid.{IsCountable}
use Rattle.bit_compile.specs.Compiled.{Case, only, results, span_of}
use Rattle.bit_compile.proofs.Pairing.{made_left, others_kept, seen_kept, seen_values}
use Rattle.bit_compile.proofs.Causes.{cause_wider}
use Rattle.bit_compile.proofs.Outcomes.{cases_among, cases_handed, results_made}
use Rattle.bit_compile.specs.Named.{IsOfEach, IsOfResults, IsOfRemainders}
use Rattle.bit_compile.specs.NamedScenes.{IsOfSource}
use Rattle.bit_compile.specs.Crowding.{HasCause}
use Rattle.spec_model.specs.Diagrams.{Function}
use Rattle.spec_model.specs.Values.{values_of}
use Rattle.bit_compile.specs.declared.cases.Source.TheVariants as source
use Rattle.bit_compile.proofs.spans.remainder_cases.Goals as goal

pub operation_cases-cases-requires-clause-span : goal.operation_cases-cases-requires-clause-span
operation_cases-cases-requires-clause-span c =
    let first = c.in_ok-number.ensures in
    let old = c.args.diagrams.now in
    let mid = c.cases_from.new.diagrams in
    let xs = c.in_ok-number.number.items in
    let adds = subst (λ (z : ℤ). AddsCases old mid xs (only (value.Int z))) (to_z-of_z w64 c.args.n c.ranges.n) first.made in
    subst (λ (vs : List Value). IsCountable (span_of Mod (map (λ (x : CaseRoot). x.value) c.args.xs.now) vs))
    (sym (seen_values old mid xs c.deref.result.now (only (value.Int c.args.n)) adds first.leaves.keeps c.deref.ensures.value (value.Int c.args.n ∷ []) refl)) c.requires.span

pub operation_cases-cases-requires-clause-xs_kept : goal.operation_cases-cases-requires-clause-xs_kept
operation_cases-cases-requires-clause-xs_kept c =
    let first = c.in_ok-number.ensures in
    others_kept c.args.diagrams.now c.cases_from.new.diagrams c.in_ok-number.number.items c.deref.result.now _ first.made first.leaves.keeps c.deref.ensures.value c.args.xs.now c.requires.xs_kept

pub operation_cases-cases-requires-clause-ys_kept : goal.operation_cases-cases-requires-clause-ys_kept
operation_cases-cases-requires-clause-ys_kept c =
    let first = c.in_ok-number.ensures in
    seen_kept c.args.diagrams.now c.cases_from.new.diagrams c.in_ok-number.number.items c.deref.result.now _ first.made first.leaves.keeps c.deref.ensures.value

pub release_all-requires : goal.release_all-requires
release_all-requires c =
    let first = c.in_ok-number.ensures in
    let then = c.operation_cases-cases.ensures in
    made_left c.args.diagrams.now c.cases_from.new.diagrams c.in_ok-number.number.items c.deref.result.now _ first.made first.leaves.keeps c.deref.ensures.value (λ v. v.items) c.operation_cases-cases.new.diagrams c.operation_cases-cases.result _ then.made then.leaves

pub returns-in_err-number : goal.returns-in_err-number
returns-in_err-number c =
    let old = c.args.diagrams.now in
    let new = c.cases_from.new.diagrams in
    let r = c.cases_from.result in
    let n = c.args.n in
    let vs = values_of (span_of Mod (map (λ (x : CaseRoot). x.value) c.args.xs.now) (value.Int n ∷ [])) in
    let named = IsOfRemainders (cases_at old c.args.xs.now) n vs in
    let step = IsOfEach (value.Int n ∷ []) (had_by old source.Everywhere) (IsOfSource old source.Everywhere) in
    let wider : (f : Function) → step f → named f = λ f is. elim is.2 [ inl same ↦ inl same | inr none ↦ absurd none ] in
    let cause = subst (λ (z : ℤ). HasCause old new r (IsOfEach (value.Int z ∷ []) (had_by old source.Everywhere) (IsOfSource old source.Everywhere))) (to_z-of_z w64 n c.ranges.n) c.cases_from.ensures.cause in
    cases_handed old new r c.in_err-number.field-0.0 named c.in_err-number.was c.cases_from.ensures.leaves (cause_wider step named wider old new r cause) c.from_residual.result _ (search rules)

pub returns : goal.returns
returns c =
    let first = c.in_ok-number.ensures in
    let old = c.args.diagrams.now in
    let mid = c.cases_from.new.diagrams in
    let xs = c.in_ok-number.number.items in
    let seen = c.deref.result.now in
    let n = c.args.n in
    let kept = c.args.xs.now in
    let whole = c.operation_cases-cases.new.diagrams in
    let r = c.operation_cases-cases.result in
    let one : List Case = only (value.Int n) in
    let adds = subst (λ (z : ℤ). AddsCases old mid xs (only (value.Int z))) (to_z-of_z w64 n c.ranges.n) first.made in
    let vs = values_of (span_of Mod (map (λ (x : CaseRoot). x.value) kept) (value.Int n ∷ [])) in
    let step = IsOfResults Mod (cases_at old kept) one vs in
    let named = IsOfRemainders (cases_at old kept) n vs in
    cases_among old mid xs seen one adds first.leaves.keeps c.deref.ensures.value step named (λ f is. inr is) (inl refl, tt)
    whole c.release_all.new.diagrams c.release_all.ensures.released c.release_all.ensures.nodes r (results Mod (cases_at old kept) one vs)
    (results_made old mid xs seen one adds first.leaves.keeps c.deref.ensures.value whole kept c.requires.xs_kept Mod (value.Int n ∷ []) r refl c.operation_cases-cases.ensures)
