use Rattle.std.proofs.Common.{◌^◌, ℕ, length, map, List, sym, subst, rules, inl, inr}
use Rattle.std.proofs.lemmas.List.{length-map}
use Rattle.spec_model.specs.GameViews.{hidden_data}
use Rattle.spec_model.specs.Values.{DomainData, values_of, rank_of}
use Rattle.spec_model.specs.Diagrams.{Function}
use Rattle.game_values.specs.declared.seen.At.TheVariants.{Now}
use Rattle.bdd_bits.specs.Contents.{function_at}
use Rattle.bit_compile.specs.declared.cases.CaseRoot.{CaseRoot}
use Rattle.bit_compile.specs.Domains.{table_domain}
use Rattle.bit_compile.specs.Compiled.{Case, coded, in_table, lettered, some_pair, table_truth, is_code}
use Rattle.bit_compile.specs.CaseRoots.{AddsCases}
use Rattle.bit_compile.proofs.Between.{functions_stay}
use Rattle.bit_compile.proofs.Pairing.{made_together, others_kept, seen_are, seen_kept}
use Rattle.bit_compile.proofs.Causes.{cause_wider}
use Rattle.bit_compile.proofs.NamedCases.{named_wider}
use Rattle.bit_compile.proofs.Outcomes.{named_among, named_handed}
use Rattle.bit_compile.proofs.NamedSteps.{all_named}
use Rattle.bit_compile.specs.NamedCodes.{IsOfNumber}
use Rattle.bit_compile.specs.Named.{IsOfCoded, IsOfCells, IsOfTable}
use Rattle.bit_compile.specs.Crowding.{HasCause, MakesNamed}
use Rattle.spec_model.specs.declared.value.Value.{Value}
use Rattle.bit_compile.specs.Codes.{level_at, width_at}
use Rattle.bit_compile.proofs.spans.table_root.Goals as goal

pub cells_root-root-requires-clause-values_kept : goal.cells_root-root-requires-clause-values_kept
cells_root-root-requires-clause-values_kept c =
    let first = c.in_ok-values.ensures in
    seen_kept c.args.diagrams.now c.coded_cases.new.diagrams c.in_ok-values.values.items c.deref.result.now _ first.made first.leaves.keeps c.deref.ensures.value

pub cells_root-root-requires-clause-atoms_kept : goal.cells_root-root-requires-clause-atoms_kept
cells_root-root-requires-clause-atoms_kept c =
    let first = c.in_ok-values.ensures in
    others_kept c.args.diagrams.now c.coded_cases.new.diagrams c.in_ok-values.values.items c.deref.result.now _ first.made first.leaves.keeps c.deref.ensures.value c.args.atoms.now c.requires.kept

pub release_all-requires : goal.release_all-requires
release_all-requires c =
    let first = c.in_ok-values.ensures in
    made_together c.args.diagrams.now c.coded_cases.new.diagrams c.in_ok-values.values.items c.deref.result.now _ first.made first.leaves.keeps c.deref.ensures.value c.cells_root-root.new.diagrams c.cells_root-root.result _ c.cells_root-root.ensures.made

pub returns : goal.returns
returns c =
    let first = c.in_ok-values.ensures in
    let old = c.args.diagrams.now in
    let mid = c.coded_cases.new.diagrams in
    let xs = c.in_ok-values.values.items in
    let seen = c.deref.result.now in
    let ds = c.args.codes.now in
    let k = c.args.k in
    let h = hidden_data c.args.h.now in
    let d = table_domain h in
    let table = c.args.table.now in
    let atoms = c.args.atoms.now in
    let cs : List Case = coded ds Now k d in
    let fs = map (λ (a : CaseRoot). function_at old a.root) atoms in
    let gs = map (λ (a : CaseRoot). function_at mid a.root) atoms in
    let whole = c.cells_root-root.new.diagrams in
    let r = c.cells_root-root.result in
    let named = IsOfTable ds k h fs table in
    let adds = subst (λ (e : DomainData). AddsCases old mid xs (coded ds Now k e)) c.domain_of.ensures.domain first.made in
    let made : List Case → List Function → ℕ → Type 0 = λ zs hs n. MakesNamed mid whole r (some_pair (in_table table (2 ^ n)) zs (lettered hs)) (IsOfCells table zs hs) in
    let one = subst (λ (zs : List Case). made zs gs (length atoms)) (seen_are old mid xs seen cs adds first.leaves.keeps c.deref.ensures.value) c.cells_root-root.ensures in
    let two = subst (λ (hs : List Function). made cs hs (length atoms)) (functions_stay old mid atoms first.leaves.keeps c.requires.kept) one in
    let then = subst (made cs fs) (sym (length-map atoms (λ (a : CaseRoot). function_at old a.root))) two in
    let had : Value → Function = λ v. is_code ds Now k (rank_of d v) in
    let each = all_named (values_of d) had (λ v. IsOfNumber (level_at ds Now k) (width_at ds k) (rank_of d v)) in
    named_among old mid xs seen cs adds first.leaves.keeps c.deref.ensures.value (IsOfCells table cs fs) named (λ f is. inr is) (named_wider (IsOfCoded ds Now k d) named (λ f is. inl is) cs each)
    whole c.release_all.new.diagrams c.release_all.ensures.released c.release_all.ensures.nodes r (table_truth ds k h fs table) then

pub returns-in_err-values : goal.returns-in_err-values
returns-in_err-values c =
    let old = c.args.diagrams.now in
    let new = c.coded_cases.new.diagrams in
    let h = hidden_data c.args.h.now in
    let ds = c.args.codes.now in
    let named = IsOfTable ds c.args.k h (map (λ (a : CaseRoot). function_at old a.root) c.args.atoms.now) c.args.table.now in
    let coded_h = IsOfCoded ds Now c.args.k (table_domain h) in
    let handed = (cause_wider coded_h named (λ f is. inl is) old new c.coded_cases.result (subst (λ (d : DomainData). HasCause old new c.coded_cases.result (IsOfCoded ds Now c.args.k d)) c.domain_of.ensures.domain c.coded_cases.ensures.cause)) in
    named_handed old new c.coded_cases.result c.in_err-values.field-0.0 named c.in_err-values.was c.coded_cases.ensures.leaves handed c.from_residual.result _ (search rules)
