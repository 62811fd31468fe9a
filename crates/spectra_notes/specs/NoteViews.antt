-- What the program's kinds and notes stand for.
use Rattle.std.specs.Prelude.{map}
use Rattle.spectra_judge.specs.KindViews.{kind_data}
use Rattle.spectra_bounds.specs.TypeViews.{constants_data}
use Rattle.spectra_notes.specs.declared.kinds.TypeKinds as code_kinds
use Rattle.spectra_notes.specs.declared.notes.Note as code_note
use Rattle.spectra_notes.specs.declared.notes.Notes as code_notes
use Rattle.spectra_notes.specs.TypeKinds.{TypeKinds}
use Rattle.spectra_notes.specs.Notes.{Note, Noted}

abbrev pub type_kinds_data : code_kinds.TypeKinds → TypeKinds
type_kinds_data k =
    record {
      constants = constants_data k.constants;
      variables = map kind_data k.variables.items;
      system = k.system.items;
      predicates = map (λ ks. map kind_data ks.items) k.predicates.items;
    }

abbrev pub note_data : code_note.Note → Note
note_data n = record { hole = n.hole; kind = kind_data n.kind }

abbrev pub notes_data : code_notes.Notes → Noted
notes_data n = record { kinds = type_kinds_data n.kinds; defines = map kind_data n.defines.items; holes = n.holes.items; on_cycle = n.order.on_cycle.items }
