-- What a step of reading a text does to what was read so far.
use Rattle.std.specs.Prelude.{◌≡◌, List, [], ◌∷◌, ◌++◌, map}
use Rattle.spec_model.specs.Views.{pattern_data as model_pattern}
use Rattle.spectra_resolved.specs.TextViews.{line_data}
use Rattle.spectra_lines.specs.declared.reading.Read.{Read}
use Rattle.spectra_lines.specs.Contents.{Facts}
use Rattle.spectra_lines.specs.Parts.{TextPart, LinePart, PatternPart, part_room, part_lines, part_patterns}
use Rattle.spectra_lines.specs.SoundParts.{IsSoundTyped}

-- what a part gives stands behind what was read, and it takes the room that it needs
pub record ReadsPart (f : Facts) (p : TextPart) (old new : Read) : Type 0 where
  pub room : new.room ≡ part_room f old.room p
  pub lines : map line_data new.lines.items ≡ map line_data old.lines.items ++ part_lines f old.room p
  pub patterns : map model_pattern new.patterns.items ≡ map model_pattern old.patterns.items ++ part_patterns f old.room p

-- the patterns that are said to be sound are so
abbrev pub IsSoundPart : Facts → TextPart → Type 0
IsSoundPart f (LinePart l) = Unit {0}
IsSoundPart f (PatternPart p) = IsSoundTyped f p

abbrev pub ArePartsSound : Facts → List TextPart → Type 0
ArePartsSound f [] = Unit {0}
ArePartsSound f (p ∷ ps) = IsSoundPart f p × ArePartsSound f ps
