-- The tokens of a whole text, and whether two faults are one.
use Rattle.std.specs.Prelude.{ℕ, ◌≡◌, ◌+◌, ◌⊎◌, true, false, List, [], ◌∷◌}
use Rattle.spectra_exprs.specs.declared.fault.SyntaxFault.{SyntaxFault}
use Rattle.spectra_exprs.specs.declared.fault.SyntaxFault.TheVariants as faults
use Rattle.spectra_trees.specs.declared.class.Class.TheVariants as classes
use Rattle.spectra_trees.specs.Classes.{same_class}
use Rattle.spectra_trees.specs.Lexemes.{Lexeme}

-- the tokens of a whole text, numbered from a number on: the last, and no other, is the end of the text
abbrev pub IsWholeFrom : ℕ → List Lexeme → Type 0
IsWholeFrom number [] = ⊥
IsWholeFrom number (t ∷ []) = (t.number ≡ number) × (same_class t.class classes.Finish ≡ true)
IsWholeFrom number (t ∷ u ∷ ts) = (t.number ≡ number) × (same_class t.class classes.Finish ≡ false) × IsWholeFrom (number + 1) (u ∷ ts)

-- the same fault, unless memory ran out
abbrev pub AreOne : SyntaxFault → SyntaxFault → Type 0
AreOne first second = (first ≡ second) ⊎ (first ≡ faults.Memory) ⊎ (second ≡ faults.Memory)
