-- Resolved trees in lists, and operators in a row.
use Rattle.std.specs.Prelude.{List, [], ◌∷◌}
use Rattle.spectra_trees.specs.declared.tree.BinaryWord.{BinaryWord}
use Rattle.spectra_resolved.specs.declared.spot.Spot.{Spot}
use Rattle.spectra_resolved.specs.declared.spot.Mark.{Mark}
use Rattle.spectra_resolved.specs.declared.tree.Times.{Times}
use Rattle.spectra_resolved.specs.Resolved.{ResolvedTree, Form, ResolvedTrees, tree, ResolvedRegex, ResolvedRegexes}

-- the trees as a list, and back
abbrev pub trees : List ResolvedTree → ResolvedTrees
trees [] = ResolvedTrees.none
trees (t ∷ ts) = ResolvedTrees.one_more t (trees ts)

-- an operator with its second operand, and the place of the first token of both operands
pub record LinkData : Type 0 where
  pub first : Spot
  pub at : Mark
  pub word : BinaryWord
  pub second : ResolvedTree

-- a tree and one operator behind it
abbrev pub joined : ResolvedTree → LinkData → ResolvedTree
joined t l = tree l.first l.at (Form.Binary l.word t l.second)

-- a tree with operators behind it, one after another
abbrev pub chained : ResolvedTree → List LinkData → ResolvedTree
chained t [] = t
chained t (l ∷ ls) = chained (joined t l) ls

abbrev pub regexes : List ResolvedRegex → ResolvedRegexes
regexes [] = ResolvedRegexes.none
regexes (r ∷ rs) = ResolvedRegexes.one_more r (regexes rs)

-- a part with repeats behind it, one after another
abbrev pub repeated : ResolvedRegex → List Times → ResolvedRegex
repeated r [] = r
repeated r (t ∷ ts) = repeated (ResolvedRegex.Repetition r t) ts

abbrev pub regex_list : ResolvedRegexes → List ResolvedRegex
regex_list ResolvedRegexes.none = []
regex_list (ResolvedRegexes.one_more r rs) = r ∷ regex_list rs
