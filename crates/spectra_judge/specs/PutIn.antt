-- In which expressions everything is put in, by what may stand in them.
use Rattle.std.specs.Prelude.{ℕ, ◌-◌, ◌==◌, Bool, true, false, ◌&&◌, ◌||◌, nat_lt, nat_le, List, [], ◌∷◌, sum}
use Rattle.std.specs.List.{list_all}
use Rattle.spec_model.specs.Values.{DomainData, TruthValues, WholeNumbers, Enumeration}
use Rattle.spectra_resolved.specs.declared.spot.Spot.{Spot}
use Rattle.spectra_resolved.specs.declared.tree.Extent.{Extent}
use Rattle.spectra_resolved.specs.declared.tree.Extent.TheVariants as extents
use Rattle.spectra_resolved.specs.declared.tree.Leaf.{Leaf}
use Rattle.spectra_resolved.specs.declared.tree.Leaf.TheVariants as leaf
use Rattle.spectra_resolved.specs.Resolved.{ResolvedTree, tree, Form, ResolvedTrees}
use Rattle.spectra_resolved.specs.Spots.{same_place}
use Rattle.spectra_judge.specs.Kinds.{Kind, Truth, Whole, NameOf, Anything}

-- What may stand in an expression: parts without parts, and arrays, by the number of the first element and how many there are.
pub record Parts : Type 0 where
  pub leaf : Leaf → Bool
  pub array : (first count : ℕ) → Bool

-- the variable of a quantifier, by the place of its name
abbrev pub is_bound_at : Spot → Leaf → Bool
is_bound_at variable (leaf.Bound at) = same_place at variable
is_bound_at variable _ = false

-- in the body of a quantifier that isn't written out its variable may stand too
abbrev pub seen_inside : Extent → (variable : Spot) → Parts → Parts
seen_inside extents.Right variable good = good
seen_inside _ variable good = record good { leaf = λ l. is_bound_at variable l || good.leaf l }

-- no definition is used, no name is misused, and every other part without parts and every array passes a test
abbrev mutual
  pub is_put_in : Parts → ResolvedTree → Bool
  is_put_in good (tree first at form) = form_put_in good form

  pub form_put_in : Parts → Form → Bool
  form_put_in good (Form.LeafOf l) = good.leaf l
  form_put_in good (Form.PredicateOf k ts) = false
  form_put_in good (Form.MisuseOf m ts) = false
  form_put_in good (Form.Next t) = is_put_in good t
  form_put_in good (Form.Prefix word t) = is_put_in good t
  form_put_in good (Form.Binary word a b) = is_put_in good a && is_put_in good b
  form_put_in good (Form.Mod t number_at n) = is_put_in good t
  form_put_in good (Form.And ts operators) = each_put_in good ts
  form_put_in good (Form.Or ts operators) = each_put_in good ts
  form_put_in good (Form.Index first n t) = good.array first n && is_put_in good t
  form_put_in good (Form.Quantified word variable extent low high ts) =
      is_put_in good low && (is_put_in good high && each_put_in (seen_inside extent variable good) ts)

  pub each_put_in : Parts → ResolvedTrees → Bool
  each_put_in good ResolvedTrees.none = true
  each_put_in good (ResolvedTrees.one_more t ts) = is_put_in good t && each_put_in good ts

-- Whether an array of so many elements, one at least, begins at a number, where variables of so many elements each are declared.
abbrev pub is_array : (counts : List ℕ) → (first count : ℕ) → Bool
is_array [] first n = false
is_array (c ∷ cs) first n = (first == 0 && (nat_lt 0 n && (n == c))) || (nat_le c first && is_array cs (first - c) n)

-- in a line: a truth value, a number, one of so many enum names, or one of so many variables
abbrev pub line_leaf : (names variables : ℕ) → Leaf → Bool
line_leaf names variables (leaf.Truth b) = true
line_leaf names variables (leaf.Number z) = true
line_leaf names variables (leaf.EnumName n) = nat_lt n names
line_leaf names variables (leaf.Variable k) = nat_lt k variables
line_leaf names variables _ = false

-- Each of these, and an array, where so many enum names and variables of so many elements each are declared.
abbrev pub in_line : (names : ℕ) → (counts : List ℕ) → Parts
in_line names counts = record { leaf = line_leaf names (sum counts); array = is_array counts }

-- in a line of a pattern: parameters and own variables in place of variables
abbrev pub pattern_leaf : (names params own : ℕ) → Leaf → Bool
pattern_leaf names params own (leaf.Truth b) = true
pattern_leaf names params own (leaf.Number z) = true
pattern_leaf names params own (leaf.EnumName n) = nat_lt n names
pattern_leaf names params own (leaf.Parameter k) = nat_lt k params
pattern_leaf names params own (leaf.Own k) = nat_lt k own
pattern_leaf names params own _ = false

-- each of these, and no array
abbrev pub in_pattern : (names params own : ℕ) → Parts
in_pattern names params own = record { leaf = pattern_leaf names params own; array = λ first n. false }

-- the kind of a variable with a domain
abbrev pub domain_kind : DomainData → Kind
domain_kind TruthValues = Truth
domain_kind (WholeNumbers low high) = Whole low high
domain_kind (Enumeration names) = NameOf names

-- the kind of a type whose enum names have numbers of 16 bits
abbrev pub has_room : Kind → Bool
has_room Anything = false
has_room (NameOf names) = list_all (λ n. nat_lt n 65_536) names
has_room _ = true
