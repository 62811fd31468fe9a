-- Places in several files, and names with their places.
use Rattle.std.specs.Prelude.{ℕ, Bool, true, false, ◌==◌, ◌&&◌, List}
use Rattle.spectra_trees.specs.declared.tree.Place.{Place}
use Rattle.spectra_trees.specs.Data.{NameData}
use Rattle.spectra_resolved.specs.declared.spot.Spot.{Spot}
use Rattle.spectra_resolved.specs.declared.spot.Mark.{Mark}

-- whether two places are one
abbrev pub same_place : Spot → Spot → Bool
same_place a b = (a.file == b.file) && ((a.line == b.line) && (a.column == b.column))

-- a place of a file
abbrev pub spot_at : (file : ℕ) → Place → Spot
spot_at file at = record { file = file; line = at.line; column = at.column }

-- where a name of a file stands
abbrev pub spot_of : (file : ℕ) → NameData → Spot
spot_of file name = record { file = file; line = name.line; column = name.column }

-- where a part stands of the text itself
abbrev pub in_text : Spot → Mark
in_text at = record { spot = at; brought = false }

-- where a part stands that a body brings, by the place of its name
abbrev pub brought_at : Spot → Mark
brought_at name = record { spot = name; brought = true }

-- a name as it is written, and where
pub record MentionData : Type 0 where
  pub text : List ℕ
  pub at : Spot

abbrev pub mentioned : (file : ℕ) → NameData → MentionData
mentioned file name = record { text = name.text; at = spot_of file name }
