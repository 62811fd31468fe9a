-- Operators where tokens are read from left to right.
use Rattle.std.specs.Prelude.{◌||◌, Bool, List, [], ◌∷◌, Option, None, option_map, Ok, Err, if◌then◌else◌}
use Rattle.spectra_exprs.specs.declared.fault.SyntaxFault.TheVariants as faults
use Rattle.spectra_exprs.specs.declared.operators.Level.{Level}
use Rattle.spectra_trees.specs.declared.class.Class.TheVariants as classes
use Rattle.spectra_trees.specs.declared.tree.Place.{Place}
use Rattle.spectra_trees.specs.declared.tree.PrefixWord.{PrefixWord}
use Rattle.spectra_trees.specs.declared.tree.BinaryWord.{BinaryWord}
use Rattle.spectra_trees.specs.Lexemes.{Lexeme}
use Rattle.spectra_exprs.specs.Read.{Reader, starts, expect}
use Rattle.spectra_exprs.specs.Operators.{prefix_word, operator_word, is_operator}

-- an operator of a level at the front, its place, and what is behind it
unfoldable pub operator_at : Level → List Lexeme → Option ((Place × BinaryWord) × List Lexeme)
operator_at level [] = None
operator_at level (t ∷ ts) = option_map (λ word. ((t.at, word), ts)) (operator_word level t.class)

-- PREFIX at the front, and what is behind it
unfoldable pub prefix_at : List Lexeme → Option ((Lexeme × PrefixWord) × List Lexeme)
prefix_at [] = None
prefix_at (t ∷ ts) = option_map (λ word. ((t, word), ts)) (prefix_word t.class)

-- whether a sum goes on
unfoldable pub starts_sum : List Lexeme → Bool
starts_sum ts = starts classes.Plus ts || starts classes.Minus ts

-- "|" or the word `or`
unfoldable pub starts_or : List Lexeme → Bool
starts_or ts = starts classes.Bar ts || starts classes.Or ts

unfoldable pub expect_or : Reader Lexeme
expect_or ts = if starts classes.Bar ts then expect classes.Bar ts else expect classes.Or ts

-- what was read, where no operator follows
unfoldable pub closed : {A : Type 0} → A → Reader A
closed a [] = Ok (a, [])
closed a (t ∷ ts) = if is_operator t.class then Err (faults.Parentheses t.number) else Ok (a, t ∷ ts)
