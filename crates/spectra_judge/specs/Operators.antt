-- The table of operators: which operands each takes, and what it gives.
use Rattle.std.specs.Prelude.{Bool, true, false, ◌&&◌}
use Rattle.spectra_trees.specs.declared.tree.PrefixWord.{PrefixWord}
use Rattle.spectra_trees.specs.declared.tree.PrefixWord.TheVariants as prefix
use Rattle.spectra_trees.specs.declared.tree.BinaryWord.{BinaryWord}
use Rattle.spectra_trees.specs.declared.tree.BinaryWord.TheVariants as binary
use Rattle.spectra_judge.specs.Kinds.{Kind, Truth, is_truth, is_whole, can_equal, added, subtracted, multiplied}

-- what an operator between two operands takes
abbrev pub takes : BinaryWord → Kind → Kind → Bool
takes binary.Implies a b = is_truth a && is_truth b
takes binary.Iff a b = is_truth a && is_truth b
takes binary.Since a b = is_truth a && is_truth b
takes binary.Triggered a b = is_truth a && is_truth b
takes binary.Eq a b = can_equal a b
takes binary.Ne a b = can_equal a b
takes _ a b = is_whole a && is_whole b

-- what it gives, whether or not it takes its operands
abbrev pub gives : BinaryWord → Kind → Kind → Kind
gives binary.Add a b = added a b
gives binary.Sub a b = subtracted a b
gives binary.Mul a b = multiplied a b
gives _ a b = Truth

-- the operators that speak of the past
abbrev pub is_past : BinaryWord → Bool
is_past binary.Since = true
is_past binary.Triggered = true
is_past _ = false

abbrev pub is_past_prefix : PrefixWord → Bool
is_past_prefix prefix.Not = false
is_past_prefix _ = true
