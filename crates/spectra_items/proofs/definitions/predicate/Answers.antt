use Rattle.std.proofs.Common.{List, flat_map, sym, ap, ◌∙◌}
use Rattle.spectra_trees.specs.declared.tree.Name.{Name}
use Rattle.spectra_trees.specs.declared.tree.TypeTree.{TypeTree}
use Rattle.spectra_trees.specs.Data.{TypeData, NameData}
use Rattle.spectra_resolved.specs.Findings.{with_faults}
use Rattle.spectra_resolved.specs.Reports.{found_in}
use Rattle.spectra_resolved.specs.Spaces.{clashes}
use Rattle.spectra_resolved.specs.Resolving.{resolved, misuses}
use Rattle.spectra_resolved.proofs.First.{three_lists}
use Rattle.spectra_items.specs.Types.{type_faults}
use Rattle.spectra_items.specs.Meanings.{parameter_entries, in_predicate}
use Rattle.spectra_items.specs.ItemViews.{parameters_data, predicate_data}
use Rattle.spectra_items.specs.Steps.{names_by, look_by}
use Rattle.spectra_items.proofs.definitions.predicate.Goals as goal

pub returns-clause-found : goal.returns-clause-found
returns-clause-found c =
    let r = c.args.resolver.now in
    let p = predicate_data c.args.item.now in
    let old = found_in c.args.findings.now in
    let types = λ (ps : List (TypeTree × Name)). flat_map (λ (a : TypeData × NameData). type_faults (names_by r) (look_by r) r.file a.0) (parameters_data ps) in
    let again = clashes (parameter_entries r.file p.params) in
    let inside = misuses (resolved (in_predicate (names_by r) r.file p) r.file p.body) in
    c.in_ok-body.ensures.found
    ∙ ap (λ f. with_faults (with_faults f again) inside) (c.in_ok-params.ensures.found ∙ ap (λ (ps : List (TypeTree × Name)). with_faults old (types ps)) c.deref.ensures.value)
    ∙ sym (three_lists old (types c.args.item.now.params.items) again inside)
