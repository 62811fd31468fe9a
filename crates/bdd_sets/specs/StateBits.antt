-- The bits of a state, and the functions of bits that stand for sets of states.
use Rattle.std.specs.Prelude.{◌≡◌, ℕ, zero, suc, ◌-◌, ◌^◌, nat_le, true, false, ◌&&◌, if◌then◌else◌, List, length}
use Rattle.spec_model.specs.declared.value.Value.{Value}
use Rattle.spec_model.specs.Values.{DomainData}
use Rattle.spec_model.specs.Diagrams.{Bits, Function, with_bit}
use Rattle.spec_model.specs.Games.{GameData, State, listed}
use Rattle.spec_model.specs.Steps.{is_state}
use Rattle.spec_model.specs.Sets.{StateSet}
use Rattle.game_values.specs.declared.seen.At.{At}
use Rattle.bit_compile.specs.Domains.{state_domains}
use Rattle.bit_compile.specs.Codes.{HasValues, level_at, width_at, code_at}

-- the bits with a number's digits from a level on, the most significant first
abbrev pub with_number : (level width n : ℕ) → Bits → Bits
with_number level zero n s = s
with_number level (suc w) n s = if nat_le (2 ^ w) n then with_number (suc level) w (n - 2 ^ w) (with_bit s level true) else with_number (suc level) w n (with_bit s level false)

-- the bits with the codes of so many of these values
abbrev pub with_values : List DomainData → At → List Value → ℕ → Bits → Bits
with_values ds at vs zero s = s
with_values ds at vs (suc k) s = with_number (level_at ds at k) (width_at ds k) (code_at ds vs k) (with_values ds at vs k s)

-- the present or the next bits of a state; each other bit is false
unfoldable pub bits_for : GameData → At → State → Bits
bits_for g at s = with_values (state_domains g) at (listed s) (length (state_domains g)) (λ level. false)

-- the present or the next bits are those of the state
abbrev pub HasState : GameData → At → State → Bits → Type 0
HasState g at s b = HasValues (state_domains g) at (listed s) b

-- the states whose bits make the function true
abbrev pub set_at : GameData → At → Function → StateSet
set_at g at f s = is_state g s && f (bits_for g at s)

-- The function reads which state the bits are of and nothing else, and is false of bits that are no state's.
pub record TellsStates (g : GameData) (at : At) (f : Function) : Type 0 where
  pub settled : (s : State) (b : Bits) → is_state g s ≡ true → HasState g at s b → f b ≡ f (bits_for g at s)
  pub elsewhere : (b : Bits) → f b ≡ true → (s : State) × (is_state g s ≡ true) × HasState g at s b

-- the function tells the states of this set
pub record Tells (g : GameData) (at : At) (f : Function) (t : StateSet) : Type 0 where
  pub states : TellsStates g at f
  pub set : set_at g at f ≡ t
