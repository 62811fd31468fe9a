use Rattle.std.proofs.Common.{None, sym, ap, ◌∙◌}
use Rattle.spectra_resolved.specs.Findings.{with_faults}
use Rattle.spectra_resolved.specs.TextViews.{text_data}
use Rattle.spectra_resolved.proofs.First.{found_later}
use Rattle.spectra_bodies.specs.Faults.{faults_of_types, faults_of_definitions}
use Rattle.spectra_bodies.proofs.reporting.first_wrong.Goals as goal

pub returns : goal.returns
returns c =
    let text = text_data c.args.text.now in
    c.first.ensures
    ∙ c.in_ok-report_types.ensures
    ∙ ap (λ f. with_faults f (faults_of_types text)) (c.in_ok-report_definitions.ensures ∙ ap (λ f. with_faults f (faults_of_definitions text)) c.new-findings.ensures)
    ∙ sym (found_later None (faults_of_types text) (faults_of_definitions text))
