use Rattle.std.proofs.Common.{sym, ap, ◌∙◌}
use Rattle.spectra_resolved.specs.Findings.{with_faults}
use Rattle.spectra_resolved.specs.Reports.{found_in}
use Rattle.spectra_resolved.specs.TextViews.{text_data}
use Rattle.spectra_bounds.specs.Numbers.{constants}
use Rattle.spectra_notes.specs.Notes.{Noted}
use Rattle.spectra_bodies.specs.Unmeant.{all_unmeant}
use Rattle.spectra_bodies.specs.Faults.{wrong_in}
use Rattle.spectra_bodies.proofs.Alone.{some_wrong, none_wrong}
use Rattle.spectra_bodies.proofs.reporting.report_declared.Goals as goal

pub returns-in-Some : goal.returns-in-Some
returns-in-Some c =
    let text = text_data c.args.text.now in
    c.report.ensures.put
    ∙ some_wrong (found_in c.args.findings.now) (wrong_in text) (all_unmeant (constants text.definitions) text) c.in-Some.fault (sym c.in-Some.is ∙ c.in_ok-first.ensures)

pub returns-in-None : goal.returns-in-None
returns-in-None c =
    let text = text_data c.args.text.now in
    let old = found_in c.args.findings.now in
    let constants_are = ap (λ (n : Noted). n.kinds.constants) c.requires.notes in
    c.report_all_unmeant.ensures
    ∙ (λ i. with_faults old (all_unmeant (constants_are i) text))
    ∙ none_wrong old (wrong_in text) (all_unmeant (constants text.definitions) text) (sym c.in-None.is ∙ c.in_ok-first.ensures)
