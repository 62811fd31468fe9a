-- The path of a diagram that goes one way wherever it can.
use Rattle.std.specs.Prelude.{ℕ, Bool, true, false, not, if◌then◌else◌, List, [], ◌∷◌}
use Rattle.spec_model.specs.Diagrams.{Diagram, constant, branch}

-- whether a diagram is the false constant
abbrev pub is_false : Diagram → Bool
is_false (constant b) = not b
is_false (branch level low high) = false

-- whether a path that goes `towards` a bit's part, where that isn't false, goes to the high part
abbrev pub goes_high : Bool → Diagram → Diagram → Bool
goes_high true low high = not (is_false high)
goes_high false low high = is_false low

-- the levels that a path reads which goes so
abbrev pub levels_on : Bool → Diagram → List ℕ
levels_on towards (constant b) = []
levels_on towards (branch level low high) = level ∷ (if goes_high towards low high then levels_on towards high else levels_on towards low)
