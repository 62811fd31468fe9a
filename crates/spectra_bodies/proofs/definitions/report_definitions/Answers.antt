use Rattle.std.proofs.Common.{length, map, flat_map, sym, ap, ◌∙◌}
use Rattle.std.proofs.lemmas.List.{length-map}
use Rattle.spectra_resolved.specs.Findings.{with_faults}
use Rattle.spectra_resolved.specs.Reports.{found_in}
use Rattle.spectra_resolved.specs.Texts.{ResolvedDefinition}
use Rattle.spectra_resolved.specs.TextViews.{definition_data, text_data}
use Rattle.spectra_resolved.proofs.First.{with_faults_append}
use Rattle.spectra_uses.specs.Uses.{uses_in, all_uses}
use Rattle.spectra_bounds.specs.Cycles.{on_cycles, cycle_faults}
use Rattle.spectra_bounds.proofs.Marks.{on_cycles-length}
use Rattle.spectra_notes.specs.Notes.{Noted, noted, body_faults, known_inside}
use Rattle.spectra_bodies.proofs.definitions.report_definitions.Goals as goal

-- there are as many marks as definitions
pub report_cycles-requires : goal.report_cycles-requires
report_cycles-requires c =
    let ds = (text_data c.args.text.now).definitions in
    ap length (c.deref-2.ensures.value ∙ ap (λ (n : Noted). n.on_cycle) c.requires.notes)
    ∙ on_cycles-length (all_uses ds)
    ∙ length-map ds (λ (d : ResolvedDefinition). uses_in d.body)
    ∙ sym (length-map ds (λ (d : ResolvedDefinition). d.name.at))
    ∙ sym (ap length (c.deref-3.ensures.value ∙ c.in_ok-places.ensures ∙ ap (λ xs. map (λ (d : ResolvedDefinition). d.name.at) (map definition_data xs)) c.deref.ensures.value))

pub returns : goal.returns
returns c =
    let text = text_data c.args.text.now in
    let old = found_in c.args.findings.now in
    let marks = c.deref-2.ensures.value ∙ ap (λ (n : Noted). n.on_cycle) c.requires.notes in
    let places = c.deref-3.ensures.value ∙ c.in_ok-places.ensures ∙ ap (λ xs. map (λ (d : ResolvedDefinition). d.name.at) (map definition_data xs)) c.deref.ensures.value in
    let bodies = flat_map (λ (d : ResolvedDefinition). body_faults (known_inside text (noted text).defines d) d) text.definitions in
    c.report_bodies.ensures
    ∙ ap (λ f. with_faults f bodies) (c.report_cycles.ensures ∙ (λ i. with_faults old (cycle_faults (marks i) (places i))))
    ∙ sym (with_faults_append old (cycle_faults (on_cycles (all_uses text.definitions)) (map (λ (d : ResolvedDefinition). d.name.at) text.definitions)) bodies)
