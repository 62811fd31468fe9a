use Rattle.std.proofs.Common.{◌-◌, map, sym, ap, ◌∙◌}
use Rattle.std.proofs.lemmas.List.{length-map}
use Rattle.spectra_trees.specs.Views.{tree_data}
use Rattle.spectra_resolved.specs.Findings.{with_faults}
use Rattle.spectra_resolved.specs.Reports.{found_in}
use Rattle.spectra_declared.specs.Items.{items_from}
use Rattle.spectra_declared.specs.ItemViews.{filed_data}
use Rattle.spectra_declared.specs.Declarations.{scope_faults, limit_faults, import_and_item_faults}
use Rattle.spectra_resolved.proofs.First.{three_lists}
use Rattle.spectra_declared.proofs.declared.declared.Goals as goal

pub returns-clause-found : goal.returns-clause-found
returns-clause-found c =
    let old = found_in c.args.findings.now in
    let trees = map tree_data c.args.trees.now in
    let items = ap (map filed_data) c.deref.ensures.value ∙ c.in_ok-items.ensures in
    let told = c.in_ok-scope.ensures.found ∙ ap (λ xs. with_faults old (scope_faults xs)) items in
    let count = sym (length-map c.args.trees.now tree_data) in
    c.report_counted.ensures
    ∙ (λ i. with_faults (with_faults (told i) (limit_faults (items_from 0 trees))) (import_and_item_faults (count i - 1) trees))
    ∙ sym (three_lists old (scope_faults (items_from 0 trees)) (limit_faults (items_from 0 trees)) _)
