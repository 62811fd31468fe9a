use Rattle.std.proofs.Common.{◌≡◌, sym, ◌∙◌}
use Rattle.std.proofs.lemmas.Option.{same_Some}
use Rattle.spectra_resolved.specs.Findings.{with_faults}
use Rattle.spectra_resolved.specs.Reports.{found_in}
use Rattle.spectra_resolved.specs.TextViews.{definition_data, text_data}
use Rattle.spectra_judge.specs.KindViews.{known_data}
use Rattle.spectra_judge.specs.Judged.{faults_of}
use Rattle.spectra_bounds.proofs.Made.{read_data}
use Rattle.spectra_notes.specs.Notes.{stand_of, noted, known_inside}
use Rattle.spectra_notes.specs.NoteViews.{notes_data}
use Rattle.spectra_bodies.proofs.Inside.{inside}
use Rattle.spectra_bodies.proofs.definitions.report_body.Goals as goal

pub returns : goal.returns
returns c d there =
    let text = text_data c.args.text.now in
    let xs = c.args.text.now.definitions.items in
    let k = c.args.k in
    let old = found_in c.args.findings.now in
    let known : known_data c.known_in_body-known.result ≡ known_inside text (noted text).defines d =
    c.known_in_body-known.ensures.known ∙ inside (notes_data c.args.notes.now) text k d c.requires.notes there in
    let is = same_Some (definition_data c.index-definition.result.now) d (sym (read_data definition_data xs k c.index-definition.result.now c.requires.within c.index-definition.ensures) ∙ there) in
    c.report_faults.ensures
    ∙ (λ i. with_faults old (faults_of (known_data c.known_in_body-known.result) (c.stand_of-stand.ensures i) (definition_data c.index-definition.result.now).body))
    ∙ (λ i. with_faults old (faults_of (known i) (stand_of (is i).word) (is i).body))
