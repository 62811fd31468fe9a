-- A past operator as a table of one truth value: what the operator was at the position before, or for `PREV` its operand.
use Rattle.std.specs.Prelude.{ℕ, zero, suc, Bool, true, false, ◌&&◌, ◌||◌, if◌then◌else◌, List, [], ◌∷◌, map, flat_map}
use Rattle.spec_model.specs.declared.expr.Past.{Past}
use Rattle.spec_model.specs.declared.expr.Past.TheVariants.{Prev, Once, Historically, Since, Triggered}
use Rattle.spec_model.specs.Meaning.{operand}
use Rattle.spec_model.specs.Syntax.{Formula, PastOf, listed}
use Rattle.spec_model.specs.Games.{HiddenData}
use Rattle.past_bits.specs.Entries.{each_with_entries}

-- the table's value at the first position
abbrev pub first_bit : Past → Bool
first_bit Prev = false
first_bit Once = false
first_bit Historically = true
first_bit Since = false
first_bit Triggered = true

-- the operator's value, from its operands at the position and the table's value
abbrev pub entry_of : Past → (a b value : Bool) → Bool
entry_of Prev a b value = value
entry_of Once a b value = a || value
entry_of Historically a b value = a && value
entry_of Since a b value = b || a && value
entry_of Triggered a b value = b && (a || value)

-- the table's value at the next position
abbrev pub next_bit : Past → (a b value : Bool) → Bool
next_bit Prev a b value = a
next_bit Once a b value = a || value
next_bit Historically a b value = a && value
next_bit Since a b value = b || a && value
next_bit Triggered a b value = b && (a || value)

-- the table's value at each position, where the operands have these values
abbrev pub bit_at : Past → List (ℕ → Bool) → ℕ → Bool
bit_at op as' zero = first_bit op
bit_at op as' (suc t) = next_bit op (operand as' 0 t) (operand as' 1 t) (bit_at op as' t)

-- a truth value as the value of a hidden table
abbrev pub number_of_bit : Bool → ℕ
number_of_bit b = if b then 1 else 0

-- the operands at each letter, in the order of the letters: the first operand is bit 0
abbrev pub letters_of : Past → List (Bool × Bool)
letters_of Prev = (false, false) ∷ (true, false) ∷ []
letters_of Once = (false, false) ∷ (true, false) ∷ []
letters_of Historically = (false, false) ∷ (true, false) ∷ []
letters_of Since = (false, false) ∷ (true, false) ∷ (false, true) ∷ (true, true) ∷ []
letters_of Triggered = (false, false) ∷ (true, false) ∷ (false, true) ∷ (true, true) ∷ []

-- what a table has for each value and letter
abbrev pub cells_of : {X : Type 0} → Past → ((a b value : Bool) → X) → List X
cells_of op f = flat_map (λ value. map (λ l. f l.0 l.1 value) (letters_of op)) (false ∷ true ∷ [])

abbrev pub next_cells : Past → List ℕ
next_cells op = cells_of op (λ a b value. number_of_bit (next_bit op a b value))

abbrev pub entry_cells : Past → List Bool
entry_cells op = cells_of op (entry_of op)

abbrev pub table_with : Past → List Formula → HiddenData
table_with op atoms =
    record { values = 2; first = number_of_bit (first_bit op); atoms = atoms; next = next_cells op; tables = entry_cells op ∷ [] }

-- The table of an operator among those of several: its atoms are the operands, with entries for the operators in them.
-- What is no past operator has none.
abbrev pub table_of : List Formula → Formula → HiddenData
table_of ops (PastOf op es) = table_with op (listed (each_with_entries ops es))
table_of ops _ = record { values = 0; first = 0; atoms = []; next = []; tables = [] }

abbrev pub tables_of : List Formula → List HiddenData
tables_of ops = map (table_of ops) ops
