-- Which lists of values have bits, and that no two have the same.
use Rattle.std.specs.Prelude.{◌≡◌, List, true, IsTrue}
use Rattle.spec_model.specs.declared.value.Value.{Value}
use Rattle.spec_model.specs.Values.{DomainData, is_assignment}
use Rattle.spec_model.specs.Diagrams.{Bits}
use Rattle.spec_model.specs.Games.{GameData, State, listed}
use Rattle.spec_model.specs.Steps.{is_state}
use Rattle.game_values.specs.declared.seen.At.{At}
use Rattle.bit_compile.specs.Domains.{state_domains}
use Rattle.bit_compile.specs.Codes.{HasValues}

-- values with the same bits are the same
abbrev pub OneState : List DomainData → Type 0
OneState ds = (at : At) (vs ws : List Value) (s : Bits) → is_assignment ds vs ≡ true → is_assignment ds ws ≡ true → HasValues ds at vs s → HasValues ds at ws s → vs ≡ ws

-- a state is a value of each domain
abbrev pub IsListed : GameData → State → Type 0
IsListed g s = IsTrue (is_state g s) → is_assignment (state_domains g) (listed s) ≡ true
