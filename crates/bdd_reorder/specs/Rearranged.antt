-- Functions that a copy holds.
use Rattle.std.specs.Prelude.{◌≡◌, ◌⊎◌, ℕ, List}
use Rattle.std.specs.List.{Contains}
use Rattle.spec_model.specs.Diagrams.{Diagram, Function, value, shifted, IsPartOf}

abbrev pub NoFunction : Function → Type 0
NoFunction f = ⊥

-- the function is one of these diagrams', with its levels rearranged
abbrev pub IsOneRearranged : List ℕ → List Diagram → Function → Type 0
IsOneRearranged levels ds f = (d : Diagram) × Contains ds d × (f ≡ shifted levels (value d))

-- the function is that of a part of the diagram, with its levels rearranged
abbrev pub IsPartRearranged : List ℕ → Diagram → Function → Type 0
IsPartRearranged levels whole f = (d : Diagram) × IsPartOf d whole × (f ≡ shifted levels (value d))

-- the function is the level's bit
abbrev pub IsBit : ℕ → Function → Type 0
IsBit level f = f ≡ (λ s. s level)

-- while a part is copied: parts' functions rearranged, and one level's bit
abbrev pub IsOfPart : List ℕ → Diagram → ℕ → Function → Type 0
IsOfPart levels whole level f = IsPartRearranged levels whole f ⊎ IsBit level f

-- while several diagrams are copied: some of their functions rearranged, those of parts of one of them, and one level's bit
abbrev pub IsOfCopy : List ℕ → List Diagram → Diagram → ℕ → Function → Type 0
IsOfCopy levels ds whole level f = IsOneRearranged levels ds f ⊎ IsOfPart levels whole level f
