use Rattle.std.proofs.Common.{◌≡◌, ap, ◌∙◌}
use Rattle.spectra_resolved.specs.Findings.{with_faults}
use Rattle.spectra_resolved.specs.Reports.{found_in}
use Rattle.spectra_resolved.specs.TextViews.{text_data}
use Rattle.spectra_judge.specs.KindViews.{known_data}
use Rattle.spectra_notes.specs.Notes.{Noted, noted, known_in_line}
use Rattle.spectra_elaboration.specs.DefinitionViews.{definitions_data}
use Rattle.spectra_bounds.specs.TypeViews.{constants_data}
use Rattle.spectra_bodies.specs.Faults.{typed_faults}
use Rattle.spectra_bodies.proofs.Plain.{same_sound_bounds}
use Rattle.spectra_bodies.proofs.types.report_outside.Goals as goal

pub returns : goal.returns
returns c =
    let text = text_data c.args.text.now in
    let old = found_in c.args.findings.now in
    let constants = ap (λ (n : Noted). n.kinds.constants) c.requires.notes in
    let known : known_data c.known_in_line.result ≡ known_in_line (noted text) = c.known_in_line.ensures.known ∙ ap known_in_line c.requires.notes in
    c.in_ok-report_typed.ensures ∙ (λ i. with_faults old (typed_faults (record { constants = constants i; bodies = c.requires.bodies i; known = known i }) text))

pub invariant_of-basis : goal.invariant_of-basis
invariant_of-basis c =
    record {
      sound = same_sound_bounds (text_data c.args.text.now) (constants_data c.args.notes.now.kinds.constants) (definitions_data c.args.definitions.now) (ap (λ (n : Noted). n.kinds.constants) c.requires.notes) c.requires.bodies;
    }
