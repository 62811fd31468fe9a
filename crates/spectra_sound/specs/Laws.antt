-- Laws over the definitions alone, each of which the function of its name in src/laws.rt proves.
use Rattle.std.specs.Prelude.{◌≡◌, ℤ, List, [], Option, All}
use Rattle.spectra_trees.specs.Data.{TreeData}
use Rattle.spectra_parser.specs.Shapes.{IsShaped}
use Rattle.spectra_resolved.specs.Texts.{ResolvedText}
use Rattle.spectra_copies.specs.Texts.{written_text}
use Rattle.spectra_declared.specs.Wholes.{text_of, faults_of}
use Rattle.spectra_sound.specs.Sound.{IsSound}

-- trees as the parser gives them, whose names have no fault, make a sound text
abbrev pub FaultlessIsSound : Type 0
FaultlessIsSound = (trees : List TreeData) → All IsShaped trees → faults_of trees ≡ [] → IsSound (text_of trees)

-- a sound text is sound when it is written out, by whichever numbers its defines have
abbrev pub WrittenIsSound : Type 0
WrittenIsSound = (numbers : List (Option ℤ)) (text : ResolvedText) → IsSound text → IsSound (written_text numbers text)
