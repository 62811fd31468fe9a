use Rattle.std.proofs.Common.{map, sym, ap, ◌∙◌}
use Rattle.spectra_trees.specs.Views.{tree_data}
use Rattle.spectra_resolved.specs.Findings.{with_faults}
use Rattle.spectra_resolved.specs.Reports.{found_in}
use Rattle.spectra_resolved.proofs.First.{with_faults_append}
use Rattle.spectra_declared.specs.Items.{items_from}
use Rattle.spectra_declared.specs.ItemViews.{filed_data}
use Rattle.spectra_declared.specs.Declarations.{names_of, declaration_faults}
use Rattle.spectra_declared.specs.Wholes.{text_of_items, item_faults}
use Rattle.spectra_declared.proofs.text.resolved_text.Goals as goal

pub returns-clause-text : goal.returns-clause-text
returns-clause-text c =
    let items = ap (map filed_data) c.deref.ensures.value ∙ c.in_ok-known.ensures.items in
    c.in_ok-text.ensures.text ∙ (λ i. text_of_items (c.in_ok-known.ensures.scope i) (items i))

pub returns-clause-found : goal.returns-clause-found
returns-clause-found c =
    let trees = map tree_data c.args.trees.now in
    let items = ap (map filed_data) c.deref.ensures.value ∙ c.in_ok-known.ensures.items in
    c.in_ok-text.ensures.found
    ∙ (λ i. with_faults (c.in_ok-known.ensures.found i) (item_faults (c.in_ok-known.ensures.scope i) (items i)))
    ∙ sym (with_faults_append (found_in c.args.findings.now) (declaration_faults trees) (item_faults (names_of (items_from 0 trees)) (items_from 0 trees)))
