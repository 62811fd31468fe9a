-- Chains of operators, each of which has all before it as its first operand.
use Rattle.std.specs.Prelude.{Bool, true, false, List, [], ◌∷◌}
use Rattle.spectra_trees.specs.declared.tree.Place.{Place}
use Rattle.spectra_trees.specs.declared.tree.BinaryWord.{BinaryWord}
use Rattle.spectra_trees.specs.Data.{Expression, expression, Form}

-- an operator with its second operand, and the place of the first token of both operands
pub record LinkData : Type 0 where
  pub first : Place
  pub at : Place
  pub word : BinaryWord
  pub second : Expression

-- an expression and one operator behind it
abbrev pub joined : Expression → LinkData → Expression
joined e l = expression l.first l.at (Form.Binary l.word e l.second)

-- an expression with operators behind it, one after another
abbrev pub chained : Expression → List LinkData → Expression
chained e [] = e
chained e (l ∷ ls) = chained (joined e l) ls

-- whether an expression is an operator between two operands
abbrev pub is_joined : Expression → Bool
is_joined (expression first at (Form.Binary word a b)) = true
is_joined (expression first at form) = false
