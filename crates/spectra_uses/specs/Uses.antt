-- The definitions that an expression uses.
use Rattle.std.specs.Prelude.{ℕ, List, [], ◌∷◌, ◌++◌, map}
use Rattle.spectra_resolved.specs.declared.tree.Leaf.{Leaf}
use Rattle.spectra_resolved.specs.declared.tree.Leaf.TheVariants as leaf
use Rattle.spectra_resolved.specs.declared.tree.Misuse.{Misuse}
use Rattle.spectra_resolved.specs.declared.tree.Misuse.TheVariants as misuse
use Rattle.spectra_resolved.specs.Resolved.{ResolvedTree, tree, Form, ResolvedTrees}
use Rattle.spectra_resolved.specs.Texts.{ResolvedDefinition}

abbrev pub leaf_uses : Leaf → List ℕ
leaf_uses (leaf.Define k) = k ∷ []
leaf_uses _ = []

-- a misused name is a use all the same
abbrev pub misuse_uses : Misuse → List ℕ
misuse_uses misuse.Unknown = []
misuse_uses (misuse.Bare k) = k ∷ []
misuse_uses (misuse.Called l) = leaf_uses l
misuse_uses (misuse.Arity k) = k ∷ []

-- the numbers of the definitions whose names stand in an expression, in text order
abbrev mutual
  pub uses_in : ResolvedTree → List ℕ
  uses_in (tree first at form) = form_uses form

  pub form_uses : Form → List ℕ
  form_uses (Form.LeafOf l) = leaf_uses l
  form_uses (Form.PredicateOf k ts) = (k ∷ []) ++ each_uses ts
  form_uses (Form.MisuseOf m ts) = misuse_uses m ++ each_uses ts
  form_uses (Form.Next t) = uses_in t
  form_uses (Form.Prefix word t) = uses_in t
  form_uses (Form.Binary word a b) = uses_in a ++ uses_in b
  form_uses (Form.Mod t number_at n) = uses_in t
  form_uses (Form.And ts operators) = each_uses ts
  form_uses (Form.Or ts operators) = each_uses ts
  form_uses (Form.Index first n t) = uses_in t
  form_uses (Form.Quantified word variable extent low high ts) = uses_in low ++ (uses_in high ++ each_uses ts)

  pub each_uses : ResolvedTrees → List ℕ
  each_uses ResolvedTrees.none = []
  each_uses (ResolvedTrees.one_more t ts) = uses_in t ++ each_uses ts

-- each definition's uses, in the order of definitions; the types of a predicate's parameters are no use
abbrev pub all_uses : List ResolvedDefinition → List (List ℕ)
all_uses definitions = map (λ (d : ResolvedDefinition). uses_in d.body) definitions
