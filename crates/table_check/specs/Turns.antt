-- What the moves after a node are judged by, and which of them a row has nodes for.
use Rattle.std.specs.Prelude.{◌≡◌, Bool, true, false, ◌&&◌, if◌then◌else◌, ℕ, suc, List, [], ◌∷◌, map, length, drop, slice_get, Option, Some, None, IsTrue}
use Rattle.std.specs.Borrow.{Bor}
use Rattle.spec_model.specs.declared.value.Value.{Value}
use Rattle.spec_model.specs.Values.{Assignment}
use Rattle.spec_model.specs.GameViews.{game_data}
use Rattle.spec_model.specs.Games.{GameData, State, first_hidden}
use Rattle.spec_model.specs.Steps.{Before, is_state, is_input, is_output, legal_input, legal_output}
use Rattle.spec_model.specs.WellMade.{WellMade}
use Rattle.game_play.specs.Sights.{as_values, IsReadAt}
use Rattle.game_play.specs.Judged.{IsJudgeOf, IsOutputJudgeOf}
use Rattle.strategy_tables.specs.declared.tables.Node.{Node}
use Rattle.strategy_tables.specs.Tables.{NodeData, some_passes, is_reached, same_values}
use Rattle.strategy_tables.specs.Sound.{HasStates}
use Rattle.strategy_tables.specs.Views.{node_data}
use Rattle.table_check.specs.declared.judges.Judges.{Judges}
use Rattle.table_check.specs.declared.room.Room.{Room}
use Rattle.table_check.specs.declared.turn.Turn.{Turn}

-- the judges are of the game
pub record AreJudges (j : Judges) : Type 0 where
  pub made : WellMade (game_data j.game)
  pub inputs : IsJudgeOf (game_data j.game) j.inputs
  pub outputs : IsOutputJudgeOf (game_data j.game) j.outputs

-- the room for what is read of a state of the game
pub record HasRoom (g : GameData) (r : Room) : Type 0 where
  pub cells : length r.cells.items ≡ length g.hidden
  pub numbers : length r.numbers.items ≡ length g.hidden

-- what is read of the state before a move; before the first one only the first hidden values are
abbrev pub IsReadBefore : GameData → Before → Room → Type 0
IsReadBefore g None r = r.numbers.items ≡ as_values (first_hidden g)
IsReadBefore g (Some s) r = IsTrue (is_state g s) × IsReadAt g s r.state.items r.cells.items r.numbers.items

-- ---- the moves after a node, or the first ones

abbrev pub before_of : Option (Bor Node) → Before
before_of None = None
before_of (Some v) = Some (node_data v.now).state

abbrev pub given_of : Option (Bor (List Value)) → Option Assignment
given_of None = None
given_of (Some x) = Some x.now

abbrev pub game_at : Turn → GameData
game_at t = game_data t.judges.now.game

abbrev pub nodes_at : Turn → List NodeData
nodes_at t = map node_data t.nodes.now

pub record IsTurn (t : Turn) : Type 0 where
  pub judges : AreJudges t.judges.now
  pub states : HasStates (game_at t) (nodes_at t)
  pub read : IsReadBefore (game_at t) (before_of t.before) t.room.now

-- ---- rows

-- a row is of the system's moves after legal inputs, or of those after the environment's input, which is given
abbrev pub IsMove : GameData → Option Assignment → Assignment → Type 0
IsMove g None m = IsTrue (is_input g m)
IsMove g (Some x) m = IsTrue (is_input g x) × IsTrue (is_output g m)

-- the moves that it has a node for
abbrev pub is_listed : GameData → Before → Option Assignment → Assignment → Bool
is_listed g b None m = legal_input g b m
is_listed g b (Some x) m = legal_output g b x m

-- the nodes that fit a move
abbrev pub fits : GameData → Before → Option Assignment → Assignment → NodeData → Bool
fits g b None m v = is_reached g b m v && legal_output g b m v.state.position.output
fits g b (Some x) m v = is_reached g b x v && same_values v.state.position.output m

-- the first number names a node that passes
abbrev pub first_passes : List NodeData → (NodeData → Bool) → List ℕ → Bool
first_passes nodes test [] = false
first_passes nodes test (t ∷ ts) = some_passes test (slice_get nodes t)

-- the place in a row after a move: one further where it is listed and the row goes on with a node that passes, and where it isn't
-- listed the same
abbrev pub place_after : List NodeData → (NodeData → Bool) → (listed : Bool) → List ℕ → ℕ → Option ℕ
place_after nodes test true row place = if first_passes nodes test (drop place row) then Some (suc place) else None
place_after nodes test false row place = Some place
