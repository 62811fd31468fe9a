-- Which regular expressions are repeats.
use Rattle.std.specs.Prelude.{Bool, true, false}
use Rattle.spectra_trees.specs.Data.{RegexData}

-- whether it is a part with a repeat behind it
abbrev pub is_repeat : RegexData → Bool
is_repeat (RegexData.Repeat r times) = true
is_repeat _ = false
