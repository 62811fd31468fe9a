use Rattle.std.proofs.Common.{◌≡◌, ◌+◌, suc, nat_lt, List, ◌∷◌, map, drop, sym, ap, ◌∙◌, add-one, drop-cons}
use Rattle.spectra_trees.specs.declared.tree.Name.{Name}
use Rattle.spectra_trees.specs.Views.{name_data, tree_data}
use Rattle.spectra_resolved.specs.Findings.{with_faults}
use Rattle.spectra_resolved.specs.Reports.{found_in}
use Rattle.spectra_declared.specs.Declarations.{import_faults, imports_faults}
use Rattle.spectra_resolved.proofs.First.{with_faults_append}
use Rattle.spectra_declared.proofs.limits.report_imports.Goals as goal

pub loop-file-preserved : goal.loop-file-preserved
loop-file-preserved c =
    let trees = c.args.trees.now in
    let n = c.loop-file.file in
    let t = c.index-trees-file.result in
    let last = c.args.last in
    let old = found_in c.loop-file.findings in
    let left = map tree_data (drop (n + 1) trees) in
    let own = import_faults n (nat_lt n last) (map name_data t.imports.items) in
    let rest : drop n trees ≡ t ∷ drop (n + 1) trees = drop-cons trees n t c.loop-file-test.true ∙ (λ j. sym c.index-trees-file.is j ∷ drop (sym (add-one n) j) trees) in
    let told = c.report_file_imports.ensures ∙ ap (λ (ns : List Name). with_faults old (import_faults n (nat_lt n last) (map name_data ns))) c.deref.ensures.value in
    ap (λ f. with_faults f (imports_faults last (n + 1) left)) told
    ∙ ap (λ m. with_faults (with_faults old own) (imports_faults last m left)) (add-one n)
    ∙ sym (with_faults_append old own (imports_faults last (suc n) left))
    ∙ ap (λ xs. with_faults old (imports_faults last n (map tree_data xs))) (sym rest)
    ∙ c.loop-file.invariant
