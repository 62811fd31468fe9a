-- What an expression of a text is at each position, by its own tree: a define or predicate is what its body is, and a quantifier
-- speaks of each number between its bounds.
use Rattle.std.specs.Prelude.{◌≡◌, ℕ, suc, ◌+◌, ◌<◌, ℤ, pos, nat_abs, ◌+ℤ◌, ◌-ℤ◌, ◌*ℤ◌, int_lt, int_le, Bool, false, not, ◌||◌, if◌then◌else◌, List, [], ◌∷◌, Some, length, map, flat_map, get_or, slice_get}
use Rattle.std.specs.List.{list_any, list_all}
use Rattle.std.specs.Int.{int_rem_euclid}
use Rattle.std.specs.Bool.{beq}
use Rattle.spec_model.specs.declared.value.Value.{Value}
use Rattle.spec_model.specs.declared.value.Value.TheVariants as value
use Rattle.spec_model.specs.Values.{same_value, truth_of, number_of}
use Rattle.spec_model.specs.Meaning.{Reading, previously, once, historically, since, triggered}
use Rattle.spectra_trees.specs.declared.tree.PrefixWord.{PrefixWord}
use Rattle.spectra_trees.specs.declared.tree.PrefixWord.TheVariants as prefixes
use Rattle.spectra_trees.specs.declared.tree.BinaryWord.{BinaryWord}
use Rattle.spectra_trees.specs.declared.tree.BinaryWord.TheVariants as binary
use Rattle.spectra_resolved.specs.declared.spot.Spot.{Spot}
use Rattle.spectra_resolved.specs.Spots.{same_place}
use Rattle.spectra_resolved.specs.declared.tree.Leaf.{Leaf}
use Rattle.spectra_resolved.specs.declared.tree.Leaf.TheVariants as leaf
use Rattle.spectra_resolved.specs.declared.tree.QuantifierWord.{QuantifierWord}
use Rattle.spectra_resolved.specs.declared.tree.QuantifierWord.TheVariants as quantifiers
use Rattle.spectra_resolved.specs.declared.tree.Extent.{Extent}
use Rattle.spectra_resolved.specs.declared.tree.Extent.TheVariants as extents
use Rattle.spectra_resolved.specs.Resolved.{ResolvedTree, tree, Form, ResolvedTrees}
use Rattle.spectra_resolved.specs.Texts.{ResolvedDefinition}
use Rattle.spectra_copies.specs.Ranges.{numbers_between}

-- ---- what names stand for

-- a value at each position
abbrev pub Sense : Type 0
Sense = ℕ → Value

-- the numbers of quantifiers' variables, each of which is told by the place of its name
abbrev pub Numbers : Type 0
Numbers = Spot → ℤ

abbrev pub numbered : Numbers → (variable : Spot) → ℤ → Numbers
numbered n variable z at = if same_place variable at then z else n at

-- of names, by their numbers: what variables are, the parameters and the own variables around an expression, and the use of
-- a definition with arguments; and the numbers of the quantifiers around
pub record Senses : Type 0 where
  pub variable : ℕ → Sense
  pub parameter : ℕ → Sense
  pub own : ℕ → Sense
  pub definition : ℕ → List Sense → Sense
  pub number : Numbers

-- what stands where a text without faults has nothing
abbrev pub nothing : Sense
nothing p = value.Bool false

-- in the body of a definition arguments stand for parameters, and no quantifier around is seen
abbrev pub inside : Senses → List Sense → Senses
inside s arguments = record s { parameter = λ k. get_or arguments k nothing; number = λ at. pos 0 }

-- in the body of a quantifier its variable has a number
abbrev pub with_number : Senses → (variable : Spot) → ℤ → Senses
with_number s variable z = record s { number = numbered s.number variable z }

-- ---- expressions

abbrev pub leaf_sense : Senses → Leaf → Sense
leaf_sense s (leaf.Truth b) p = value.Bool b
leaf_sense s (leaf.Number z) p = value.Int z
leaf_sense s (leaf.EnumName n) p = value.Name n
leaf_sense s (leaf.Variable k) p = s.variable k p
leaf_sense s (leaf.Parameter k) p = s.parameter k p
leaf_sense s (leaf.Own k) p = s.own k p
leaf_sense s (leaf.Define k) p = s.definition k [] p
leaf_sense s (leaf.Bound at) p = value.Int (s.number at)
leaf_sense s (leaf.Hole h) p = nothing p

abbrev pub prefix_sense : PrefixWord → Sense → Sense
prefix_sense prefixes.Not a p = value.Bool (not (truth_of (a p)))
prefix_sense prefixes.Prev a p = value.Bool (previously (λ q. truth_of (a q)) p)
prefix_sense prefixes.Once a p = value.Bool (once (λ q. truth_of (a q)) p)
prefix_sense prefixes.Historically a p = value.Bool (historically (λ q. truth_of (a q)) p)

abbrev pub binary_sense : BinaryWord → Sense → Sense → Sense
binary_sense binary.Implies a b p = value.Bool (not (truth_of (a p)) || truth_of (b p))
binary_sense binary.Iff a b p = value.Bool (beq (truth_of (a p)) (truth_of (b p)))
binary_sense binary.Since a b p = value.Bool (since (λ q. truth_of (a q)) (λ q. truth_of (b q)) p)
binary_sense binary.Triggered a b p = value.Bool (triggered (λ q. truth_of (a q)) (λ q. truth_of (b q)) p)
binary_sense binary.Eq a b p = value.Bool (same_value (a p) (b p))
binary_sense binary.Ne a b p = value.Bool (not (same_value (a p) (b p)))
binary_sense binary.Lt a b p = value.Bool (int_lt (number_of (a p)) (number_of (b p)))
binary_sense binary.Le a b p = value.Bool (int_le (number_of (a p)) (number_of (b p)))
binary_sense binary.Gt a b p = value.Bool (int_lt (number_of (b p)) (number_of (a p)))
binary_sense binary.Ge a b p = value.Bool (int_le (number_of (b p)) (number_of (a p)))
binary_sense binary.Add a b p = value.Int (number_of (a p) +ℤ number_of (b p))
binary_sense binary.Sub a b p = value.Int (number_of (a p) -ℤ number_of (b p))
binary_sense binary.Mul a b p = value.Int (number_of (a p) *ℤ number_of (b p))

-- the truth values of several at a position
abbrev pub truths : List Sense → ℕ → List Bool
truths as' p = map (λ a. truth_of (a p)) as'

-- all of several, or some
abbrev pub quantified : QuantifierWord → List Bool → Bool
quantified quantifiers.ForAll bs = list_all (λ b. b) bs
quantified quantifiers.Exists bs = list_any (λ b. b) bs

-- What a quantifier speaks of: its body with each number between its bounds, or the copies that are written out. Bounds that are
-- no range are a fault.
abbrev pub spoken_of : Extent → (low high : ℤ) → (with_each : ℤ → List Bool) → (copies : List Bool) → List Bool
spoken_of extents.Open low high with_each copies = flat_map with_each (numbers_between low high)
spoken_of extents.Right low high with_each copies = copies
spoken_of extents.Wrong low high with_each copies = []

abbrev mutual
  pub sense : Senses → ResolvedTree → Sense
  sense s (tree first at form) p = form_sense s form p

  pub form_sense : Senses → Form → Sense
  form_sense s (Form.LeafOf l) p = leaf_sense s l p
  form_sense s (Form.PredicateOf k ts) p = s.definition k (senses s ts) p
  form_sense s (Form.MisuseOf m ts) p = nothing p
  form_sense s (Form.Next t) p = sense s t (suc p)
  form_sense s (Form.Prefix word t) p = prefix_sense word (λ q. sense s t q) p
  form_sense s (Form.Binary word a b) p = binary_sense word (λ q. sense s a q) (λ q. sense s b q) p
  form_sense s (Form.Mod t number_at n) p = value.Int (int_rem_euclid (number_of (sense s t p)) n)
  form_sense s (Form.And ts operators) p = value.Bool (list_all (λ b. b) (truths (senses s ts) p))
  form_sense s (Form.Or ts operators) p = value.Bool (list_any (λ b. b) (truths (senses s ts) p))
  form_sense s (Form.Index first count t) p = s.variable (first + nat_abs (number_of (sense s t p))) p
  form_sense s (Form.Quantified word variable extent low high ts) p =
      value.Bool (quantified word (spoken_of extent (number_of (sense s low p)) (number_of (sense s high p)) (λ z. truths (senses (with_number s variable z) ts) p) (truths (senses s ts) p)))

  -- those of several
  pub senses : Senses → ResolvedTrees → List Sense
  senses s ResolvedTrees.none = []
  senses s (ResolvedTrees.one_more t ts) = (λ q. sense s t q) ∷ senses s ts

-- ---- a text's names

-- Variables have what they have at each position, and each definition is what its body is, whatever stands for its parameters.
pub record AreOf (ds : List ResolvedDefinition) (r : Reading) (s : Senses) : Type 0 where
  pub variables : s.variable ≡ r.variable
  pub definitions : (k : ℕ) (d : ResolvedDefinition) → slice_get ds k ≡ Some d → (arguments : List Sense) (p : ℕ) → s.definition k arguments p ≡ sense (inside s arguments) d.body p

-- There are such, and each definition of the text is one thing alone.
pub record HaveOneSense (ds : List ResolvedDefinition) (r : Reading) : Type 0 where
  pub senses : Senses
  pub are : AreOf ds r senses
  pub only : (s : Senses) → AreOf ds r s → (k : ℕ) → k < length ds → (arguments : List Sense) (p : ℕ) → s.definition k arguments p ≡ senses.definition k arguments p

-- In a pattern with so many parameters these are the first variables, and its own ones follow.
pub record AreInPattern (params : ℕ) (r : Reading) (s : Senses) : Type 0 where
  pub parameters : s.parameter ≡ r.variable
  pub own : (k : ℕ) → s.own k ≡ r.variable (params + k)
