-- The levels of nesting that are open behind some tokens, counted by the tokens' classes alone. The bracket of an array's
-- length is counted too; nothing else is open there, so that it is never one too many.
use Rattle.std.specs.Prelude.{ℕ, suc, ◌||◌, Bool, true, false, List, [], ◌∷◌, if◌then◌else◌}
use Rattle.spectra_trees.specs.declared.class.Class.{Class}
use Rattle.spectra_trees.specs.declared.class.Class.TheVariants as classes
use Rattle.spectra_trees.specs.Classes.{same_class}
use Rattle.spectra_trees.specs.Lexemes.{Lexeme}

-- what is open: an operator before an operand that isn't complete, a quantifier before a body that isn't, a bracket that is a
-- level, and a bracket that is none
pub data Opening : Type 0 where
  Prefix : Opening
  Quantifier : Opening
  Level : Opening
  Plain : Opening

-- what is open, the last first, and whether "(" would open no level here
pub record Nesting : Type 0 where
  pub stack : List Opening
  pub plain : Bool

-- what a token is to nesting: an operator before its operand, a quantifier's word, "(", "[", ")" or "]", "," or ";", a name,
-- what else is of an operand outside its brackets, a colon, a word that makes a bracket behind it plain, and anything else
pub data TokenSort : Type 0 where
  Prefix : TokenSort
  Quantifier : TokenSort
  Open : TokenSort
  Square : TokenSort
  Close : TokenSort
  Separator : TokenSort
  Name : TokenSort
  Operand : TokenSort
  Colon : TokenSort
  Head : TokenSort
  Other : TokenSort

unfoldable pub sort_of : Class → TokenSort
sort_of c =
    if same_class c classes.Not || same_class c classes.Prev || same_class c classes.Once || same_class c classes.Historically then TokenSort.Prefix
    else if same_class c classes.ForAll || same_class c classes.Exists then TokenSort.Quantifier
    else if same_class c classes.Open then TokenSort.Open
    else if same_class c classes.OpenBracket then TokenSort.Square
    else if same_class c classes.Close || same_class c classes.CloseBracket then TokenSort.Close
    else if same_class c classes.Comma || same_class c classes.Semicolon then TokenSort.Separator
    else if same_class c classes.Name then TokenSort.Name
    else if same_class c classes.True || same_class c classes.False || same_class c classes.Number || same_class c classes.Minus || same_class c classes.Next then TokenSort.Operand
    else if same_class c classes.Colon then TokenSort.Colon
    else if same_class c classes.Int || same_class c classes.Predicate || same_class c classes.Pattern || same_class c classes.Asm || same_class c classes.Gar then TokenSort.Head
    else TokenSort.Other

-- what is left open where an operand is complete
abbrev pub completed : List Opening → List Opening
completed [] = []
completed (Opening.Prefix ∷ stack) = completed stack
completed (Opening.Quantifier ∷ stack) = Opening.Quantifier ∷ stack
completed (Opening.Level ∷ stack) = Opening.Level ∷ stack
completed (Opening.Plain ∷ stack) = Opening.Plain ∷ stack

-- what is left open where an expression is complete
abbrev pub ended : List Opening → List Opening
ended [] = []
ended (Opening.Prefix ∷ stack) = ended stack
ended (Opening.Quantifier ∷ stack) = ended stack
ended (Opening.Level ∷ stack) = Opening.Level ∷ stack
ended (Opening.Plain ∷ stack) = Opening.Plain ∷ stack

-- what is left open where the last bracket is closed
abbrev pub without_last : List Opening → List Opening
without_last [] = []
without_last (opening ∷ stack) = stack

-- what is open behind one more token; an operand is complete where a token comes that is of none, and an expression where
-- a bracket is closed and at a separator
abbrev pub stacked : TokenSort → Bool → List Opening → List Opening
stacked TokenSort.Prefix plain stack = Opening.Prefix ∷ stack
stacked TokenSort.Quantifier plain stack = Opening.Quantifier ∷ stack
stacked TokenSort.Open true stack = Opening.Plain ∷ stack
stacked TokenSort.Open false stack = Opening.Level ∷ stack
stacked TokenSort.Square plain stack = Opening.Level ∷ stack
stacked TokenSort.Close plain stack = without_last (ended stack)
stacked TokenSort.Separator plain stack = ended stack
stacked TokenSort.Name plain stack = stack
stacked TokenSort.Operand plain stack = stack
stacked TokenSort.Colon plain stack = completed stack
stacked TokenSort.Head plain stack = completed stack
stacked TokenSort.Other plain stack = completed stack

-- the bracket is plain behind `Int`, `predicate`, `pattern`, ASM and GAR, also where names and colons stand between
abbrev pub plain_behind : TokenSort → Bool → Bool
plain_behind TokenSort.Prefix plain = false
plain_behind TokenSort.Quantifier plain = false
plain_behind TokenSort.Open plain = false
plain_behind TokenSort.Square plain = false
plain_behind TokenSort.Close plain = false
plain_behind TokenSort.Separator plain = false
plain_behind TokenSort.Name plain = plain
plain_behind TokenSort.Operand plain = false
plain_behind TokenSort.Colon plain = plain
plain_behind TokenSort.Head plain = true
plain_behind TokenSort.Other plain = false

abbrev pub nested : TokenSort → Nesting → Nesting
nested part n = record { stack = stacked part n.plain n.stack; plain = plain_behind part n.plain }

abbrev pub behind : Nesting → List Lexeme → Nesting
behind n [] = n
behind n (t ∷ ts) = behind (nested (sort_of t.class) n) ts

-- an operator, a quantifier and a bracket are one level each, and a plain bracket is none
abbrev pub levels_of : List Opening → ℕ
levels_of [] = 0
levels_of (Opening.Prefix ∷ stack) = suc (levels_of stack)
levels_of (Opening.Quantifier ∷ stack) = suc (levels_of stack)
levels_of (Opening.Level ∷ stack) = suc (levels_of stack)
levels_of (Opening.Plain ∷ stack) = levels_of stack

-- before the first token nothing is open
abbrev pub unopened : Nesting
unopened = record { stack = []; plain = false }

-- the levels that are open behind these tokens, which are the first ones of a text
abbrev pub open_levels : List Lexeme → ℕ
open_levels ts = levels_of (behind unopened ts).stack
