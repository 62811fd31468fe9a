use Rattle.std.proofs.Common.{◌≡◌, map, ap, ◌∙◌}
use Rattle.spectra_resolved.specs.Findings.{with_faults}
use Rattle.spectra_resolved.specs.Reports.{found_in}
use Rattle.spectra_resolved.specs.TextViews.{type_data, pattern_data, text_data}
use Rattle.spectra_judge.specs.KindViews.{known_data}
use Rattle.spectra_notes.specs.TypeKinds.{known_by}
use Rattle.spectra_notes.specs.Notes.{Noted, known_in_pattern}
use Rattle.spectra_elaboration.specs.DefinitionViews.{definitions_data}
use Rattle.spectra_bounds.specs.TypeViews.{constants_data}
use Rattle.spectra_bodies.specs.Faults.{each_type_faults}
use Rattle.spectra_bodies.proofs.Plain.{same_sound_bounds}
use Rattle.spectra_bodies.proofs.types.report_own.Goals as goal

pub returns : goal.returns
returns c =
    let text = text_data c.args.text.now in
    let old = found_in c.args.findings.now in
    let constants = ap (λ (n : Noted). n.kinds.constants) c.requires.notes in
    let known : known_data c.known_in_pattern.result ≡ known_in_pattern text (pattern_data c.args.pattern.now) =
    c.known_in_pattern.ensures.known ∙ (λ i. known_by (c.requires.notes i).kinds (c.requires.notes i).defines (c.in_ok-kinds.ensures.parameters i) (c.in_ok-kinds.ensures.own i)) in
    c.in_ok-report_each.ensures
    ∙ (λ i. with_faults old (each_type_faults (record { constants = constants i; bodies = c.requires.bodies i; known = known i }) (map type_data (c.deref.ensures.value i))))

pub invariant_of-basis : goal.invariant_of-basis
invariant_of-basis c =
    record {
      sound = same_sound_bounds (text_data c.args.text.now) (constants_data c.args.notes.now.kinds.constants) (definitions_data c.args.definitions.now) (ap (λ (n : Noted). n.kinds.constants) c.requires.notes) c.requires.bodies;
    }
