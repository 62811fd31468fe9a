-- Where a play is, as the buffers of a strategy hold it.
use Rattle.std.specs.Prelude.{◌≡◌, ◌+◌, List, [], map, length, pos, is_some, Some, None, if◌then◌else◌, IfSome, IsTrue}
use Rattle.spec_model.specs.declared.value.Value.{Value}
use Rattle.spec_model.specs.declared.value.Value.TheVariants as value
use Rattle.spec_model.specs.Values.{Assignment}
use Rattle.spec_model.specs.Games.{GameData}
use Rattle.spec_model.specs.Steps.{Before, is_state, is_input, is_output, reached}
use Rattle.regions.specs.Rules.{listed_before, input_count, output_count}
use Rattle.game_play.specs.Sights.{AreCells}
use Rattle.strategy_parts.specs.declared.position.Position.{Position}

abbrev pub values_at : Position → List Value
values_at p = if p.started then p.state.items else []

-- the hidden values of the state to come
abbrev pub hidden_values_after : GameData → Before → List Value
hidden_values_after g b = map (λ v. value.Int (pos v)) (reached g b [] []).hidden

-- the position is after this state
pub record IsAfter (g : GameData) (p : Position) (b : Before) : Type 0 where
  pub started : p.started ≡ is_some b
  pub listed : listed_before b ≡ values_at p
  pub read : IfSome b (λ s. AreCells g s p.cells.items)
  pub cells : length p.cells.items ≡ length g.hidden
  pub next : p.next.items ≡ hidden_values_after g b
  pub tables : length p.next.items ≡ length g.hidden
  pub room : length p.state.items ≡ length g.hidden + (input_count g + output_count g)

-- it is a state of the game, or there is none before the first move
abbrev pub IsWholeBefore : GameData → Before → Type 0
IsWholeBefore g None = Unit {0}
IsWholeBefore g (Some s) = IsTrue (is_state g s)

-- the moves are of the game, and lead to a state of it
pub record IsClosedAt (g : GameData) (b : Before) (x y : Assignment) : Type 0 where
  pub input : IsTrue (is_input g x)
  pub output : IsTrue (is_output g y)
  pub state : IsTrue (is_state g (reached g b x y))
