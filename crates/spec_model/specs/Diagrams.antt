-- Reduced diagrams (Bryant 1986, canonical form) as trees, and the Boolean functions that the operations give.
use Rattle.std.specs.Prelude.{◌≡◌, ◌≢◌, ◌==◌, ◌<◌, ◌⊎◌, ℕ, Bool, true, false, ◌&&◌, ◌||◌, if◌then◌else◌, List, [], ◌∷◌, slice_index_or}

-- a truth value, or a level with the part that is followed where its bit is false and the part where it is true
pub data Diagram : Type 0 where
  constant : Bool → Diagram
  branch : ℕ → Diagram → Diagram → Diagram

-- ---- bits and functions

-- a truth value for each level
abbrev pub Bits : Type 0
Bits = ℕ → Bool

-- a Boolean function of the bits
abbrev pub Function : Type 0
Function = Bits → Bool

-- the bits with one level's replaced
abbrev pub with_bit : Bits → ℕ → Bool → Bits
with_bit s level b other = if other == level then b else s other

-- a diagram's value: the low part at false, the high part at true
abbrev pub value : Diagram → Function
value (constant b) s = b
value (branch level low high) s = if s level then value high s else value low s

-- ---- reduced diagrams

-- the diagram is a constant, or its level is later
abbrev pub IsLater : ℕ → Diagram → Type 0
IsLater level (constant b) = Unit {0}
IsLater level (branch own low high) = level < own

-- each branch has two different parts of later levels
abbrev pub IsReduced : Diagram → Type 0
IsReduced (constant b) = Unit {0}
IsReduced (branch level low high) = (low ≢ high) × IsLater level low × IsLater level high × IsReduced low × IsReduced high

-- all its levels are below n
abbrev pub IsWithin : ℕ → Diagram → Type 0
IsWithin n (constant b) = Unit {0}
IsWithin n (branch level low high) = (level < n) × IsWithin n low × IsWithin n high

-- the first is the second itself or stands in it
abbrev pub IsPartOf : Diagram → Diagram → Type 0
IsPartOf part (constant b) = part ≡ constant b
IsPartOf part (branch level low high) = (part ≡ branch level low high) ⊎ (IsPartOf part low ⊎ IsPartOf part high)

-- ---- functions after the operations

-- the second where the first is true, and else the third
abbrev pub ite : Function → Function → Function → Function
ite f g h s = if f s then g s else h s

-- true where one of the two values of the level makes it true
abbrev pub exists_at : ℕ → Function → Function
exists_at level f s = f (with_bit s level false) || f (with_bit s level true)

-- true where some values at these levels make it true
abbrev pub exists_over : List ℕ → Function → Function
exists_over [] f = f
exists_over (level ∷ levels) f = exists_at level (exists_over levels f)

-- true where some values at these levels make both true
abbrev pub and_exists_over : List ℕ → Function → Function → Function
and_exists_over levels f g = exists_over levels (λ s. f s && g s)

-- each level is read at the level that the list gives for it
abbrev pub shifted : List ℕ → Function → Function
shifted to f s = f (λ level. s (slice_index_or to level level))
