-- When a budget is filled, whatever the nodes are numbered: by the parts of reduced diagrams of named functions, and of what
-- one operation on such diagrams made so far.
use Rattle.std.specs.Prelude.{◌≡◌, ◌↔◌, ◌⊎◌, ℕ, Bool, List, [], ◌∷◌, ◌++◌, length}
use Rattle.std.specs.List.{AllByRecursion, Contains}
use Rattle.spec_model.specs.Diagrams.{Diagram, constant, Function, value, IsPartOf, IsReduced, IsWithin}
use Rattle.bit_compile.specs.Running.{Running, arguments_of, IsUnfinishedOf}

-- no two of these are the same
abbrev pub AreDifferent : List Diagram → Type 0
AreDifferent [] = Unit {0}
AreDifferent (d ∷ ds) = (Contains ds d → ⊥) × AreDifferent ds

abbrev pub IsConstant : Diagram → Type 0
IsConstant d = (b : Bool) × (d ≡ constant b)

-- it is a part of one of these
abbrev pub IsPartOfOne : List Diagram → Diagram → Type 0
IsPartOfOne ds d = (whole : Diagram) × Contains ds whole × IsPartOf d whole

-- the reduced diagram of a named function
abbrev pub IsNamedDiagram : (Function → Type 0) → Diagram → Type 0
IsNamedDiagram IsNamed d = IsReduced d × IsNamed (value d)

-- These reduced diagrams of named functions, with the unfinished results of one operation on such diagrams, have together
-- exactly so many different parts, constants included, and all are over so many levels.
pub record FillTogether (levels budget : ℕ) (IsNamed : Function → Type 0) (sets : List Diagram) : Type 0 where
  pub named : AllByRecursion (IsNamedDiagram IsNamed) sets
  pub running : Running
  pub on_named : AllByRecursion (IsNamedDiagram IsNamed) (arguments_of running)
  pub unfinished : List Diagram
  pub results : AllByRecursion (λ d. IsReduced d × IsUnfinishedOf running d) unfinished
  pub parts : List Diagram
  pub different : AreDifferent parts
  pub are_parts : (d : Diagram) → Contains parts d ↔ (IsConstant d ⊎ IsPartOfOne (sets ++ unfinished) d)
  pub within : (d : Diagram) → Contains parts d → IsWithin levels d
  pub counted : length parts ≡ budget

-- some reduced diagrams of named functions do
abbrev pub IsFilledBy : (levels budget : ℕ) → (Function → Type 0) → Type 0
IsFilledBy levels budget IsNamed = (sets : List Diagram) × FillTogether levels budget IsNamed sets
