use Rattle.std.proofs.Common.{◌^◌, ℕ, length, map, sym, subst, ap, ◌∙◌, rules, inl, inr, nat_abs, List}
use Rattle.bdd_bits.specs.Contents.{function_at}
use Rattle.bit_compile.specs.declared.cases.CaseRoot.{CaseRoot}
use Rattle.bit_compile.specs.Compiled.{in_table, lettered, some_pair, numbers_below, is_letter, Case}
use Rattle.bit_compile.specs.CaseRoots.{cases_at}
use Rattle.bit_compile.proofs.Pairing.{made_together, others_kept, seen_kept}
use Rattle.bit_compile.proofs.Causes.{cause_wider}
use Rattle.bit_compile.proofs.NamedCases.{named_wider}
use Rattle.bit_compile.proofs.Outcomes.{named_among, named_handed, pairs_made}
use Rattle.bit_compile.proofs.NamedSteps.{all_named}
use Rattle.bit_compile.specs.Named.{IsOfPairs, IsOfLetter, IsOfLettered, IsOfCells}
use Rattle.spec_model.specs.Diagrams.{Function}
use Rattle.bit_compile.specs.Crowding.{MakesNamed}
use Rattle.std.proofs.lemmas.List.{length-map}
use Rattle.spec_model.specs.Values.{values_of, number_of}
use Rattle.spec_model.specs.declared.value.Value.{Value}
use Rattle.bit_compile.proofs.spans.cells_root.Goals as goal

pub pair_root-root-requires-clause-xs_kept : goal.pair_root-root-requires-clause-xs_kept
pair_root-root-requires-clause-xs_kept c =
    let first = c.in_ok-letters_had.ensures in
    others_kept c.args.diagrams.now c.letter_cases.new.diagrams c.in_ok-letters_had.letters_had.items c.deref.result.now _ first.made first.leaves.keeps c.deref.ensures.value c.args.values.now c.requires.values_kept

pub pair_root-root-requires-clause-ys_kept : goal.pair_root-root-requires-clause-ys_kept
pair_root-root-requires-clause-ys_kept c =
    let first = c.in_ok-letters_had.ensures in
    seen_kept c.args.diagrams.now c.letter_cases.new.diagrams c.in_ok-letters_had.letters_had.items c.deref.result.now _ first.made first.leaves.keeps c.deref.ensures.value

pub release_all-requires : goal.release_all-requires
release_all-requires c =
    let first = c.in_ok-letters_had.ensures in
    made_together c.args.diagrams.now c.letter_cases.new.diagrams c.in_ok-letters_had.letters_had.items c.deref.result.now _ first.made first.leaves.keeps c.deref.ensures.value c.pair_root-root.new.diagrams c.pair_root-root.result _ c.pair_root-root.ensures.made

pub returns-in_err-letters_had : goal.returns-in_err-letters_had
returns-in_err-letters_had c =
    let old = c.args.diagrams.now in
    let new = c.letter_cases.new.diagrams in
    let fs = map (λ (a : CaseRoot). function_at old a.root) c.args.atoms.now in
    let named = IsOfCells c.args.table.now (cases_at old c.args.values.now) fs in
    let cause = cause_wider (IsOfLettered fs) named (λ f is. inl is) old new c.letter_cases.result c.letter_cases.ensures.cause in
    named_handed old new c.letter_cases.result c.in_err-letters_had.field-0.0 named c.in_err-letters_had.was c.letter_cases.ensures.leaves cause c.from_residual.result _ (search rules)

pub returns : goal.returns
returns c =
    let first = c.in_ok-letters_had.ensures in
    let old = c.args.diagrams.now in
    let mid = c.letter_cases.new.diagrams in
    let seen = c.deref.result.now in
    let items = c.in_ok-letters_had.letters_had.items in
    let xs = c.args.values.now in
    let table = c.args.table.now in
    let atoms = c.args.atoms.now in
    let fs = map (λ (a : CaseRoot). function_at old a.root) atoms in
    let letters : List Case = lettered fs in
    let whole = c.pair_root-root.new.diagrams in
    let r = c.pair_root-root.result in
    let named = IsOfCells table (cases_at old xs) fs in
    let long = length-map atoms (λ (a : CaseRoot). function_at old a.root) in
    let many = 2 ^ length fs in
    let count = c.letters.ensures.count ∙ ap (λ (n : ℕ). 2 ^ n) (sym c.requires.counted ∙ sym long) in
    let then = subst (λ (n : ℕ). MakesNamed mid whole r (some_pair (in_table table n) (cases_at mid xs) (cases_at mid seen)) (IsOfPairs (in_table table n) (cases_at mid xs) (cases_at mid seen))) count c.pair_root-root.ensures in
    let had : Value → Function = λ v. is_letter fs (nat_abs (number_of v)) in
    let each = all_named (values_of (numbers_below many)) had (λ v. IsOfLetter fs (nat_abs (number_of v))) in
    let made = named_among old mid items seen letters first.made first.leaves.keeps c.deref.ensures.value (IsOfPairs (in_table table many) (cases_at old xs) letters) named (λ f is. inr is) (named_wider (IsOfLettered fs) named (λ f is. inl is) letters each)
    whole c.release_all.new.diagrams c.release_all.ensures.released c.release_all.ensures.nodes r (some_pair (in_table table many) (cases_at old xs) letters)
    (pairs_made old mid items seen letters first.made first.leaves.keeps c.deref.ensures.value whole xs c.requires.values_kept (in_table table many) r then) in
    subst (λ (n : ℕ). MakesNamed old c.release_all.new.diagrams r (some_pair (in_table table (2 ^ n)) (cases_at old xs) letters) named) long made
