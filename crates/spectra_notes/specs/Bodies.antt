-- What is known of names in a body.
use Rattle.std.specs.Prelude.{ℕ, [], get_or}
use Rattle.spectra_judge.specs.Known.{Known}
use Rattle.spectra_notes.specs.TypeKinds.{known_by}
use Rattle.spectra_notes.specs.Notes.{Noted}

-- what is known of the names in the body of a definition, by its number
abbrev pub known_in_body : Noted → ℕ → Known
known_in_body n k = known_by n.kinds n.defines (get_or n.kinds.predicates k []) []
