-- What a compiled formula means at the bits of states, and which levels it reads.
use Rattle.std.specs.Prelude.{◌≡◌, ◌<◌, ◌≤◌, ◌+◌, ◌⊎◌, ℕ, List, true, false, IsTrue, length, count_by, slice_index, ◌==◌}
use Rattle.spec_model.specs.Diagrams.{Bits, Function}
use Rattle.spec_model.specs.Syntax.{Formula}
use Rattle.spec_model.specs.Meaning.{holds_at}
use Rattle.spec_model.specs.Moves.{is_env, has_next}
use Rattle.spec_model.specs.Games.{GameData, State, listed, next_hidden, step_reading}
use Rattle.spec_model.specs.Steps.{is_state}
use Rattle.spec_model.specs.WellMade.{awaits_output}
use Rattle.game_values.specs.declared.seen.At.{At}
use Rattle.game_values.specs.declared.seen.At.TheVariants.{Now, Next}
use Rattle.bdd_ops.specs.Reading.{Ignores}
use Rattle.bit_compile.specs.Domains.{state_domains}
use Rattle.bit_compile.specs.Codes.{HasValues, code_at, level_at, width_at}
use Rattle.bit_compile.specs.Compiled.{is_code}
use Rattle.spec_model.specs.Values.{DomainData}

-- the slot numbered k is an input's, or an output's
abbrev pub IsInputSlot : GameData → ℕ → Type 0
IsInputSlot g k = (length g.hidden ≤ k) × (k < length g.hidden + count_by (λ v. is_env v.owner) g.variables)

abbrev pub IsOutputSlot : GameData → ℕ → Type 0
IsOutputSlot g k = length g.hidden + count_by (λ v. is_env v.owner) g.variables ≤ k

-- The formula may read the next bits of the slot: it reads a next value, and the slot is an input's, or it reads a next output
-- and the slot is an output's.
abbrev pub IsAwaited : GameData → Formula → ℕ → Type 0
IsAwaited g e k = (has_next e ≡ true) × (IsInputSlot g k ⊎ ((awaits_output g.variables false e ≡ true) × IsOutputSlot g k))

-- the level is one of these bits of the slot
abbrev pub IsBitOf : List DomainData → At → ℕ → ℕ → Type 0
IsBitOf ds at k m = (level_at ds at k ≤ m) × (m < level_at ds at k + width_at ds k)

-- the level is a present bit, or a next one that the formula may read
abbrev pub IsReadLevel : GameData → Formula → ℕ → Type 0
IsReadLevel g e m = (k : ℕ) × (k < length (state_domains g)) × (IsBitOf (state_domains g) Now k m ⊎ (IsBitOf (state_domains g) Next k m × IsAwaited g e k))

-- the next bits that the formula may read are the state's
abbrev pub HasAwaited : GameData → Formula → State → Bits → Type 0
HasAwaited g e s bits = (k : ℕ) → k < length (state_domains g) → IsAwaited g e k → is_code (state_domains g) Next k (code_at (state_domains g) (listed s) k) bits ≡ true

-- At the bits of a state and of the next one the function is the formula's value, and it reads no other levels.
pub record IsFormulaOf (g : GameData) (e : Formula) (f : Function) : Type 0 where
  pub meaning : (s s' : State) (bits : Bits) → IsTrue (is_state g s) → IsTrue (is_state g s') → HasValues (state_domains g) Now (listed s) bits → HasAwaited g e s' bits → f bits ≡ holds_at (step_reading g s s') e 0
  pub reads : (m : ℕ) → (IsReadLevel g e m → ⊥) → Ignores m f

-- At the bits of a state and of the next one the function says whether the table's next value is the one that follows.
abbrev pub IsUpdateOf : GameData → ℕ → Function → Type 0
IsUpdateOf g k f = (s s' : State) (bits : Bits) → IsTrue (is_state g s) → IsTrue (is_state g s') → HasValues (state_domains g) Now (listed s) bits → HasValues (state_domains g) Next (listed s') bits → f bits ≡ (slice_index s'.hidden k == slice_index (next_hidden g s) k)
