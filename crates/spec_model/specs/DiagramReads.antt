-- Which levels diagrams read, and lists of bits.
use Rattle.std.specs.Prelude.{◌≡◌, ◌≢◌, ◌⊎◌, ℕ, Bool, true, false, ◌&&◌, List, [], ◌∷◌, slice_index_or}
use Rattle.spec_model.specs.Diagrams.{Diagram, constant, branch, Bits, Function, with_bit, value, IsReduced}

-- ---- bits and functions

-- the bits that a list gives: its entries in order of their levels, and false past its end
abbrev pub bits_of : List Bool → Bits
bits_of bits level = slice_index_or bits level false

-- ---- reduced diagrams

-- the level stands in the diagram
abbrev pub Reads : ℕ → Diagram → Type 0
Reads level (constant b) = ⊥
Reads level (branch own low high) = (level ≡ own) ⊎ (Reads level low ⊎ Reads level high)

-- ---- functions after the operations

-- true where both values of the level make it true
abbrev pub forall_at : ℕ → Function → Function
forall_at level f s = f (with_bit s level false) && f (with_bit s level true)

-- true where all values at these levels make it true
abbrev pub forall_over : List ℕ → Function → Function
forall_over [] f = f
forall_over (level ∷ levels) f = forall_at level (forall_over levels f)

-- ---- laws

-- two different reduced diagrams differ on some list of bits
abbrev pub DifferSomewhere : Diagram → Diagram → Type 0
DifferSomewhere a b = IsReduced a → IsReduced b → a ≢ b → (bits : List Bool) × (value a (bits_of bits) ≢ value b (bits_of bits))
