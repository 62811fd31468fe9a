-- The numbers of expressions that read no variable.
use Rattle.std.specs.Prelude.{ℤ, pos, neg_ℤ, ◌+ℤ◌, ◌-ℤ◌, ◌*ℤ◌, int_lt, if◌then◌else◌, List, Option, Some, None, get_or}
use Rattle.std.specs.Int.{int_min, int_max, int_rem_euclid}
use Rattle.spectra_trees.specs.declared.tree.BinaryWord.{BinaryWord}
use Rattle.spectra_trees.specs.declared.tree.BinaryWord.TheVariants as binary
use Rattle.spectra_resolved.specs.declared.tree.Leaf.{Leaf}
use Rattle.spectra_resolved.specs.declared.tree.Leaf.TheVariants as leaf
use Rattle.spectra_resolved.specs.Numbers.{beyond}
use Rattle.spectra_resolved.specs.Resolved.{ResolvedTree, tree, Form}

-- a number outside of -10^12 to 10^12 counts as the one just outside
abbrev pub capped_number : ℤ → ℤ
capped_number z = int_max (neg_ℤ (pos beyond)) (int_min z (pos beyond))

abbrev pub both : (ℤ → ℤ → ℤ) → Option ℤ → Option ℤ → Option ℤ
both join (Some a) (Some b) = Some (capped_number (join a b))
both join (Some a) None = None
both join None b = None

abbrev pub joined_number : BinaryWord → Option ℤ → Option ℤ → Option ℤ
joined_number binary.Add a b = both (λ x y. x +ℤ y) a b
joined_number binary.Sub a b = both (λ x y. x -ℤ y) a b
joined_number binary.Mul a b = both (λ x y. x *ℤ y) a b
joined_number _ a b = None

abbrev pub remainder_number : ℤ → Option ℤ → Option ℤ
remainder_number n (Some a) = if int_lt (pos 0) n then Some (int_rem_euclid a n) else None
remainder_number n None = None

abbrev pub leaf_number : (numbers : List (Option ℤ)) → Leaf → Option ℤ
leaf_number numbers (leaf.Number z) = Some (capped_number z)
leaf_number numbers (leaf.Define k) = get_or numbers k None
leaf_number numbers _ = None

-- The number of an expression, where it has one: it reads no variable, and the defines that it uses have these numbers.
abbrev mutual
  pub number_in : (numbers : List (Option ℤ)) → ResolvedTree → Option ℤ
  number_in numbers (tree first at form) = form_number numbers form

  pub form_number : (numbers : List (Option ℤ)) → Form → Option ℤ
  form_number numbers (Form.LeafOf l) = leaf_number numbers l
  form_number numbers (Form.Binary word a b) = joined_number word (number_in numbers a) (number_in numbers b)
  form_number numbers (Form.Mod t number_at n) = remainder_number n (number_in numbers t)
  form_number numbers _ = None
