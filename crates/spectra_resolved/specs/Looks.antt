-- What a name stands for where it stands.
use Rattle.std.specs.Prelude.{ℕ, List, [], ◌∷◌, Option, Some, option_map, position, bytes_eq, if◌then◌else◌}
use Rattle.std.specs.Option.{option_or}
use Rattle.spectra_resolved.specs.Spots.{MentionData}
use Rattle.spectra_resolved.specs.declared.table.Named.{Named}
use Rattle.spectra_resolved.specs.declared.table.Named.TheVariants as names
use Rattle.spectra_resolved.specs.declared.tree.Leaf.TheVariants as leaves
use Rattle.spectra_resolved.specs.declared.spot.Spot.{Spot}
use Rattle.spectra_resolved.specs.declared.look.Sight.{Sight}
use Rattle.spectra_resolved.specs.declared.look.Sight.TheVariants as sights

-- what a name stands for, where it has a declaration that is visible
abbrev pub Looking : Type 0
Looking = List ℕ → Option Named

-- what the variable of a quantifier stands for
abbrev pub bound_at : Spot → Option Named
bound_at at = Some (names.Leaf (leaves.Bound at))

-- it hides what is outside
abbrev pub bound_in : Looking → List ℕ → Spot → Looking
bound_in look name at text = if bytes_eq text name then bound_at at else look text

-- what the names of several files stand for: each name of the four name spaces by its first declaration
pub record Names : Type 0 where
  pub enums : List (List ℕ)
  pub values : Looking
  pub types : Looking
  pub patterns : Looking
  pub lines : Looking

-- all values are seen outside of patterns, and enum names alone inside of one
abbrev pub outside : Sight → Names → Looking
outside sights.Values s text = s.values text
outside sights.EnumNames s text = option_map (λ k. names.Leaf (leaves.EnumName k)) (position (bytes_eq text) s.enums)

-- what is declared around a name hides what is outside
abbrev pub looked_up : Sight → Names → (around : Looking) → Looking
looked_up sight s around text = option_or (around text) (outside sight s text)

-- What a name stands for that stands for so much outside of quantifiers with these variables, the innermost last.
abbrev pub through_quantifiers : List MentionData → List ℕ → (outside : Option Named) → Option Named
through_quantifiers [] text named = named
through_quantifiers (q ∷ qs) text named = through_quantifiers qs text (if bytes_eq text q.text then bound_at q.at else named)
