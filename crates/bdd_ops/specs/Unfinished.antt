-- Unfinished results of an operation: diagrams that it makes of parts of its arguments.
use Rattle.std.specs.Prelude.{◌≡◌, ◌⊎◌, ℕ, true, false, List, not}
use Rattle.spec_model.specs.Diagrams.{Diagram, value, ite, shifted, IsPartOf, Function}
use Rattle.bdd_ops.specs.Functions.{Join, joined, joined_over, join_of}

-- the diagram is the choice between parts of these three
pub record IsChoiceOfParts (a b c made : Diagram) : Type 0 where
  pub x : Diagram
  pub y : Diagram
  pub z : Diagram
  pub x_part : IsPartOf x a
  pub y_part : IsPartOf y b
  pub z_part : IsPartOf z c
  pub is_choice : value made ≡ ite (value x) (value y) (value z)

-- the diagram joins parts of these two
pub record IsJoinOfParts (join : Join) (a b made : Diagram) : Type 0 where
  pub x : Diagram
  pub y : Diagram
  pub x_part : IsPartOf x a
  pub y_part : IsPartOf y b
  pub is_join : value made ≡ joined join (value x) (value y)

-- the diagram joins parts of two results
pub record JoinsResults (join : Join) (IsResult : Diagram → Type 0) (made : Diagram) : Type 0 where
  pub first : Diagram
  pub second : Diagram
  pub first_is : IsResult first
  pub second_is : IsResult second
  pub joins : IsJoinOfParts join first second made

-- the diagram is a result, or joins parts of two
abbrev pub IsUnfinished : Join → (Diagram → Type 0) → Diagram → Type 0
IsUnfinished join IsResult made = IsResult made ⊎ JoinsResults join IsResult made

-- the diagram is "some make both true" of parts
pub record IsRelatedPart (levels : List ℕ) (a b made : Diagram) : Type 0 where
  pub x : Diagram
  pub y : Diagram
  pub x_part : IsPartOf x a
  pub y_part : IsPartOf y b
  pub is_related : value made ≡ joined_over (join_of false) levels (joined (join_of true) (value x) (value y))

-- the diagram is a part's, with its levels moved
pub record IsShiftedPart (to : List ℕ) (a made : Diagram) : Type 0 where
  pub x : Diagram
  pub x_part : IsPartOf x a
  pub is_shifted : value made ≡ shifted to (value x)

-- the negation
abbrev pub negated : Function → Function
negated f s = not (f s)

-- the diagram is a part's negation
pub record IsNegatedPart (a made : Diagram) : Type 0 where
  pub x : Diagram
  pub x_part : IsPartOf x a
  pub is_negated : value made ≡ negated (value x)
