use Rattle.std.proofs.Common.{map, flat_map, sym, ap, ◌∙◌}
use Rattle.spectra_resolved.specs.Findings.{with_faults}
use Rattle.spectra_resolved.specs.Reports.{found_in}
use Rattle.spectra_resolved.specs.Texts.{ResolvedVariable, ResolvedAlias, ResolvedDefinition}
use Rattle.spectra_resolved.specs.TextViews.{variable_data, alias_data, definition_data, text_data}
use Rattle.spectra_resolved.proofs.First.{three_lists}
use Rattle.spectra_bodies.specs.Faults.{type_faults, each_type_faults}
use Rattle.spectra_bodies.specs.BasisViews.{basis_data}
use Rattle.spectra_bodies.proofs.types.report_typed.Goals as goal

pub returns : goal.returns
returns c =
    let old = found_in c.args.findings.now in
    let b = basis_data c.args.basis.now in
    let text = text_data c.args.text.now in
    let vs = flat_map (λ (v : ResolvedVariable). type_faults b v.domain) text.variables in
    let ts = flat_map (λ (a : ResolvedAlias). type_faults b a.body) text.types in
    let ds = flat_map (λ (d : ResolvedDefinition). each_type_faults b d.params) text.definitions in
    c.in_ok-report_parameters.ensures
    ∙ (λ i. with_faults (found_in c.report_aliases.new.findings) (flat_map (λ (d : ResolvedDefinition). each_type_faults b d.params) (map definition_data (c.deref-3.ensures.value i))))
    ∙ ap (λ f. with_faults f ds)
    (c.in_ok-report_aliases.ensures
    ∙ (λ i. with_faults (found_in c.report_variables.new.findings) (flat_map (λ (a : ResolvedAlias). type_faults b a.body) (map alias_data (c.deref-2.ensures.value i))))
    ∙ ap (λ f. with_faults f ts)
    (c.in_ok-report_variables.ensures ∙ (λ i. with_faults old (flat_map (λ (v : ResolvedVariable). type_faults b v.domain) (map variable_data (c.deref.ensures.value i))))))
    ∙ sym (three_lists old vs ts ds)
