-- How many different parts diagrams have together.
use Rattle.std.specs.Prelude.{◌≡◌, ◌↔◌, ◌⊎◌, ℕ, Bool, List, [], ◌∷◌, length}
use Rattle.std.specs.List.{AllByRecursion, Contains}
use Rattle.spec_model.specs.Diagrams.{Diagram, constant, IsPartOf, IsReduced}

-- no two of these are the same
abbrev pub AreDifferent : List Diagram → Type 0
AreDifferent [] = Unit {0}
AreDifferent (d ∷ ds) = (Contains ds d → ⊥) × AreDifferent ds

abbrev pub IsConstant : Diagram → Type 0
IsConstant d = (b : Bool) × (d ≡ constant b)

-- it is a part of one of these
abbrev pub IsPartOfOne : List Diagram → Diagram → Type 0
IsPartOfOne ds d = (whole : Diagram) × Contains ds whole × IsPartOf d whole

-- these reduced diagrams have together so many different parts, both constants always counted
pub record HaveParts (ds : List Diagram) (n : ℕ) : Type 0 where
  pub reduced : AllByRecursion IsReduced ds
  pub parts : List Diagram
  pub different : AreDifferent parts
  pub are_parts : (d : Diagram) → Contains parts d ↔ (IsConstant d ⊎ IsPartOfOne ds d)
  pub counted : length parts ≡ n
