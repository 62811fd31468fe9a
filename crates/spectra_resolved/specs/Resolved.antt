-- Trees in which each name is what it stands for: plain data.
use Rattle.std.specs.Prelude.{ℕ, ℤ, List, [], ◌∷◌}
use Rattle.spectra_trees.specs.declared.tree.PrefixWord.{PrefixWord}
use Rattle.spectra_trees.specs.declared.tree.BinaryWord.{BinaryWord}
use Rattle.spectra_resolved.specs.declared.spot.Spot.{Spot}
use Rattle.spectra_resolved.specs.declared.spot.Mark.{Mark}
use Rattle.spectra_resolved.specs.declared.tree.Leaf.{Leaf}
use Rattle.spectra_resolved.specs.declared.tree.Misuse.{Misuse}
use Rattle.spectra_resolved.specs.declared.tree.QuantifierWord.{QuantifierWord}
use Rattle.spectra_resolved.specs.declared.tree.Extent.{Extent}
use Rattle.spectra_resolved.specs.declared.tree.Times.{Times}

mutual
  -- a tree: the place of its first token, that of its operator, name, word or number with whether a body brings it, and what it is made of
  pub data ResolvedTree : Type 0 where
    tree : (first : Spot) → (at : Mark) → Form → ResolvedTree

  pub data Form : Type 0 where
    LeafOf : Leaf → Form
    PredicateOf : (number : ℕ) → ResolvedTrees → Form
    MisuseOf : Misuse → ResolvedTrees → Form
    Next : ResolvedTree → Form
    Prefix : PrefixWord → ResolvedTree → Form
    Binary : BinaryWord → ResolvedTree → ResolvedTree → Form
    Mod : ResolvedTree → (number_at : Spot) → (number : ℤ) → Form
    And : ResolvedTrees → (operators : List Spot) → Form
    Or : ResolvedTrees → (operators : List Spot) → Form
    Index : (first count : ℕ) → ResolvedTree → Form
    Quantified : QuantifierWord → (variable : Spot) → Extent → (low high : ResolvedTree) → (copies : ResolvedTrees) → Form

  -- several trees
  pub data ResolvedTrees : Type 0 where
    none : ResolvedTrees
    one_more : ResolvedTree → ResolvedTrees → ResolvedTrees

abbrev pub listed : ResolvedTrees → List ResolvedTree
listed ResolvedTrees.none = []
listed (ResolvedTrees.one_more t ts) = t ∷ listed ts

mutual
  -- a regular expression over positions
  pub data ResolvedRegex : Type 0 where
    Atom : ResolvedTree → ResolvedRegex
    Sequence : ResolvedRegexes → ResolvedRegex
    Choice : ResolvedRegexes → ResolvedRegex
    Repetition : ResolvedRegex → Times → ResolvedRegex

  pub data ResolvedRegexes : Type 0 where
    none : ResolvedRegexes
    one_more : ResolvedRegex → ResolvedRegexes → ResolvedRegexes
