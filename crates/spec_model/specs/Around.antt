-- Repeats around one another.
use Rattle.std.specs.Prelude.{List, [], ◌∷◌}
use Rattle.spec_model.specs.Syntax.{Regular, Repetition}
use Rattle.spec_model.specs.declared.copy_lines.Times.{Times}

-- a piece with repeats around it, the outermost first
abbrev pub around : List Times → Regular → Regular
around [] piece = piece
around (t ∷ ts) piece = Repetition (around ts piece) t.low t.high
