-- Which operator a token is.
use Rattle.std.specs.Prelude.{◌||◌, Bool, true, false, Option, Some, None, if◌then◌else◌}
use Rattle.spectra_exprs.specs.declared.operators.Level.{Level}
use Rattle.spectra_exprs.specs.declared.operators.Level.TheVariants as levels
use Rattle.spectra_trees.specs.declared.class.Class.{Class}
use Rattle.spectra_trees.specs.declared.class.Class.TheVariants as classes
use Rattle.spectra_trees.specs.declared.tree.PrefixWord.{PrefixWord}
use Rattle.spectra_trees.specs.declared.tree.PrefixWord.TheVariants as prefixes
use Rattle.spectra_trees.specs.declared.tree.BinaryWord.{BinaryWord}
use Rattle.spectra_trees.specs.declared.tree.BinaryWord.TheVariants as binaries
use Rattle.spectra_trees.specs.Classes.{same_class}

-- PREFIX
unfoldable pub prefix_word : Class → Option PrefixWord
prefix_word c =
    if same_class c classes.Not then Some prefixes.Not
    else if same_class c classes.Prev then Some prefixes.Prev
    else if same_class c classes.Once then Some prefixes.Once
    else if same_class c classes.Historically then Some prefixes.Historically
    else None

-- between two disjunctions
unfoldable pub arrow_word : Class → Option BinaryWord
arrow_word c = if same_class c classes.Implies then Some binaries.Implies else if same_class c classes.Iff then Some binaries.Iff else None

-- between two single operands, about the past
unfoldable pub past_word : Class → Option BinaryWord
past_word c = if same_class c classes.Since then Some binaries.Since else if same_class c classes.Triggered then Some binaries.Triggered else None

-- between two sums
unfoldable pub relation_word : Class → Option BinaryWord
relation_word c =
    if same_class c classes.Equal then Some binaries.Eq
    else if same_class c classes.Unequal then Some binaries.Ne
    else if same_class c classes.Less then Some binaries.Lt
    else if same_class c classes.AtMost then Some binaries.Le
    else if same_class c classes.Greater then Some binaries.Gt
    else if same_class c classes.AtLeast then Some binaries.Ge
    else None

-- between two products
unfoldable pub sum_word : Class → Option BinaryWord
sum_word c = if same_class c classes.Plus then Some binaries.Add else if same_class c classes.Minus then Some binaries.Sub else None

abbrev pub operator_word : Level → Class → Option BinaryWord
operator_word levels.Arrow c = arrow_word c
operator_word levels.Past c = past_word c
operator_word levels.Relation c = relation_word c
operator_word levels.Sum c = sum_word c

-- the operators that stand between operands
unfoldable pub joins : Class → Bool
joins c = same_class c classes.And || same_class c classes.Or || same_class c classes.Bar || same_class c classes.Star || same_class c classes.Mod

abbrev pub is_some : {A : Type 0} → Option A → Bool
is_some (Some a) = true
is_some None = false

unfoldable pub is_operator : Class → Bool
is_operator c = joins c || is_some (arrow_word c) || is_some (past_word c) || is_some (relation_word c) || is_some (sum_word c)
