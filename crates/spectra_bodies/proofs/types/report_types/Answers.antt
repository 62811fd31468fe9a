use Rattle.std.proofs.Common.{map, flat_map, sym, ap, ◌∙◌}
use Rattle.spectra_resolved.specs.Findings.{with_faults}
use Rattle.spectra_resolved.specs.Reports.{found_in}
use Rattle.spectra_resolved.specs.TextViews.{alias_data, pattern_data, text_data}
use Rattle.spectra_resolved.proofs.First.{three_lists}
use Rattle.spectra_bounds.specs.Cycles.{type_cycles}
use Rattle.spectra_bodies.specs.Faults.{basis_of, typed_faults, own_faults}
use Rattle.spectra_bodies.proofs.types.report_types.Goals as goal

pub returns : goal.returns
returns c =
    let text = text_data c.args.text.now in
    let old = found_in c.args.findings.now in
    let typed = typed_faults (basis_of text) text in
    let own = flat_map (own_faults text) text.patterns in
    c.in_ok-report_type_cycles.ensures
    ∙ (λ i. with_faults (found_in c.report_patterns.new.findings) (type_cycles (map alias_data (c.deref-2.ensures.value i))))
    ∙ ap (λ f. with_faults f (type_cycles text.types))
    (c.in_ok-report_patterns.ensures
    ∙ (λ i. with_faults (found_in c.report_outside.new.findings) (flat_map (own_faults text) (map pattern_data (c.deref.ensures.value i))))
    ∙ ap (λ f. with_faults f own) c.in_ok-report_outside.ensures)
    ∙ sym (three_lists old typed own (type_cycles text.types))
