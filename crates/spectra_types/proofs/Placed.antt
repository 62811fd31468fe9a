-- The variables of quantifiers, which are told by the places of their names: no two that meet have one place.
use Rattle.std.specs.Prelude.{◌≡◌, ℕ, Bool, true, false, not, ◌&&◌, List, [], ◌∷◌, ◌++◌, Some, Contains, slice_get}
use Rattle.std.specs.List.{list_any}
use Rattle.spectra_resolved.specs.declared.spot.Spot.{Spot}
use Rattle.spectra_resolved.specs.Spots.{same_place}
use Rattle.spectra_resolved.specs.Resolved.{ResolvedTree, tree, Form, ResolvedTrees}
use Rattle.spectra_resolved.specs.Texts.{ResolvedDefinition, ResolvedLine, ResolvedText}
use Rattle.spectra_lines.specs.Contents.{trees_in}

-- No quantifier stands in another whose variable's name has the same place, nor in one with one of these.
abbrev mutual
  pub is_apart : (around : List Spot) → ResolvedTree → Bool
  is_apart around (tree first at form) = form_apart around form

  pub form_apart : (around : List Spot) → Form → Bool
  form_apart around (Form.LeafOf l) = true
  form_apart around (Form.PredicateOf k ts) = each_apart around ts
  form_apart around (Form.MisuseOf m ts) = each_apart around ts
  form_apart around (Form.Next t) = is_apart around t
  form_apart around (Form.Prefix word t) = is_apart around t
  form_apart around (Form.Binary word a b) = is_apart around a && is_apart around b
  form_apart around (Form.Mod t number_at n) = is_apart around t
  form_apart around (Form.And ts operators) = each_apart around ts
  form_apart around (Form.Or ts operators) = each_apart around ts
  form_apart around (Form.Index first n t) = is_apart around t
  form_apart around (Form.Quantified word variable extent low high ts) =
      not (list_any (λ at. same_place at variable) around) && (is_apart around low && (is_apart around high && each_apart (variable ∷ around) ts))

  pub each_apart : (around : List Spot) → ResolvedTrees → Bool
  each_apart around ResolvedTrees.none = true
  each_apart around (ResolvedTrees.one_more t ts) = is_apart around t && each_apart around ts

-- the places of the variables of an expression's quantifiers
abbrev mutual
  pub places_in : ResolvedTree → List Spot
  places_in (tree first at form) = form_quantifiers form

  pub form_quantifiers : Form → List Spot
  form_quantifiers (Form.LeafOf l) = []
  form_quantifiers (Form.PredicateOf k ts) = each_places ts
  form_quantifiers (Form.MisuseOf m ts) = each_places ts
  form_quantifiers (Form.Next t) = places_in t
  form_quantifiers (Form.Prefix word t) = places_in t
  form_quantifiers (Form.Binary word a b) = places_in a ++ places_in b
  form_quantifiers (Form.Mod t number_at n) = places_in t
  form_quantifiers (Form.And ts operators) = each_places ts
  form_quantifiers (Form.Or ts operators) = each_places ts
  form_quantifiers (Form.Index first n t) = places_in t
  form_quantifiers (Form.Quantified word variable extent low high ts) = variable ∷ (places_in low ++ (places_in high ++ each_places ts))

  pub each_places : ResolvedTrees → List Spot
  each_places ResolvedTrees.none = []
  each_places (ResolvedTrees.one_more t ts) = places_in t ++ each_places ts

-- those of two expressions differ
abbrev pub ArePlacedApart : ResolvedTree → ResolvedTree → Type 0
ArePlacedApart a b = (v w : Spot) → Contains (places_in a) v → Contains (places_in b) w → same_place v w ≡ false

-- The variables of a text's quantifiers have places of their own, as names in files have: those of nested ones differ, and so do
-- those of two definitions, and those of a definition and a line.
pub record HasOwnPlaces (text : ResolvedText) : Type 0 where
  pub in_definitions : (k : ℕ) (d : ResolvedDefinition) → slice_get text.definitions k ≡ Some d → is_apart [] d.body ≡ true
  pub in_lines : (l : ResolvedLine) → Contains text.lines l → (t : ResolvedTree) → Contains (trees_in l.body) t → is_apart [] t ≡ true
  pub of_definitions : (j k : ℕ) (d e : ResolvedDefinition) → slice_get text.definitions j ≡ Some d → slice_get text.definitions k ≡ Some e → (j ≡ k → ⊥) → ArePlacedApart d.body e.body
  pub of_lines : (k : ℕ) (d : ResolvedDefinition) → slice_get text.definitions k ≡ Some d → (l : ResolvedLine) → Contains text.lines l → (t : ResolvedTree) → Contains (trees_in l.body) t → ArePlacedApart d.body t
