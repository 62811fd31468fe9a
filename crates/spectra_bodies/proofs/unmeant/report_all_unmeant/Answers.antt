use Rattle.std.proofs.Common.{map, flat_map, sym, ap, ◌∙◌}
use Rattle.spectra_resolved.specs.Findings.{with_faults}
use Rattle.spectra_resolved.specs.Reports.{found_in}
use Rattle.spectra_resolved.specs.Texts.{ResolvedVariable, ResolvedAlias, ResolvedDefinition, ResolvedPattern}
use Rattle.spectra_resolved.specs.TextViews.{variable_data, alias_data, definition_data, pattern_data, text_data}
use Rattle.spectra_bounds.specs.TypeViews.{constants_data}
use Rattle.spectra_bodies.specs.Unmeant.{unmeant, each_unmeant}
use Rattle.spectra_bodies.proofs.Loops.{four_lists}
use Rattle.spectra_bodies.proofs.unmeant.report_all_unmeant.Goals as goal

pub returns : goal.returns
returns c =
    let k = constants_data c.args.constants.now in
    let old = found_in c.args.findings.now in
    let text = text_data c.args.text.now in
    let vs = flat_map (λ (v : ResolvedVariable). unmeant k v.domain) text.variables in
    let ts = flat_map (λ (a : ResolvedAlias). unmeant k a.body) text.types in
    let ds = flat_map (λ (d : ResolvedDefinition). each_unmeant k d.params) text.definitions in
    let ps = flat_map (λ (p : ResolvedPattern). each_unmeant k p.own) text.patterns in
    c.report_own.ensures
    ∙ (λ i. with_faults (found_in c.report_parameters.new.findings) (flat_map (λ (p : ResolvedPattern). each_unmeant k p.own) (map pattern_data (c.deref-4.ensures.value i))))
    ∙ ap (λ f. with_faults f ps)
    (c.report_parameters.ensures
    ∙ (λ i. with_faults (found_in c.report_aliases.new.findings) (flat_map (λ (d : ResolvedDefinition). each_unmeant k d.params) (map definition_data (c.deref-3.ensures.value i))))
    ∙ ap (λ f. with_faults f ds)
    (c.report_aliases.ensures
    ∙ (λ i. with_faults (found_in c.report_variables.new.findings) (flat_map (λ (a : ResolvedAlias). unmeant k a.body) (map alias_data (c.deref-2.ensures.value i))))
    ∙ ap (λ f. with_faults f ts)
    (c.report_variables.ensures ∙ (λ i. with_faults old (flat_map (λ (v : ResolvedVariable). unmeant k v.domain) (map variable_data (c.deref.ensures.value i)))))))
    ∙ sym (four_lists old vs ts ds ps)
