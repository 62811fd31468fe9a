-- What a table call takes and gives.
use Rattle.std.specs.Prelude.{◌≡◌, ◌⊎◌, ℕ, ◌<◌, ◌≤◌, ◌++◌, List, length, flat_map, slice_get, None, Some}
use Rattle.spec_model.specs.Values.{Assignment}
use Rattle.spec_model.specs.Rules.{Run}
use Rattle.spec_model.specs.Syntax.{Specification}
use Rattle.spec_model.specs.Games.{GameData, inputs_of}
use Rattle.regions.specs.Kept.{Kept}
use Rattle.hidden_game.specs.GameOf as expanded
use Rattle.gr1_law.specs.Layers.{round_count}
use Rattle.gr1_law.specs.Choice.{Memory, ChosenPlay}
use Rattle.gr1_sys.specs.Held.{ranks_of}
use Rattle.strategy_parts.specs.Counts.{HasFewGoals}
use Rattle.controller.specs.declared.controller.Controller.{Controller}
use Rattle.controller.specs.Objects.{Stands, InEachPlay, game_of}
use Rattle.strategy_tables.specs.Tables.{NodeData, SystemTable}
use Rattle.strategy_tables.specs.Rules.{system_checks, first_flaw}
use Rattle.strategy_tables.specs.Games.{OfSystem, IsTableOf}
use Rattle.played_tables.specs.Played.{IsNodeOf}
use Rattle.strategy_check.specs.Seats.{CountsUp}
use Rattle.strategy_check.specs.Walks.{AreTooMany}

-- the strategy's game is the specification's, and k is its number of rounds
pub record IsPlayOf {G R M : Type 0} (kept : G → Kept R M) (s : Specification) (k : ℕ) (c : Controller G R M) : Type 0 where
  pub stands : Stands kept c
  pub game : game_of kept c ≡ expanded.game_of s
  pub rounds : k ≡ round_count (ranks_of c.layers.items)

-- The same of a game, whose goals 32 bits count, and whose inputs are these, at most 1,024.
pub record IsPlayIn {G R M : Type 0} (kept : G → Kept R M) (g : GameData) (xs : List Assignment) (k : ℕ) (c : Controller G R M) : Type 0 where
  pub stands : Stands kept c
  pub game : game_of kept c ≡ g
  pub rounds : k ≡ round_count (ranks_of c.layers.items)
  pub few_goals : HasFewGoals g
  pub inputs : xs ≡ inputs_of g
  pub few_inputs : length xs ≤ 1024

-- no two nodes agree in the state and in what is remembered
abbrev pub NodesDiffer : List NodeData → Type 0
NodesDiffer nodes = (i j : ℕ) (v w : NodeData) → slice_get nodes i ≡ Some v → slice_get nodes j ≡ Some w → v.state ≡ w.state → v.goal ≡ w.goal → v.rank ≡ w.rank → v.asm ≡ w.asm → i ≡ j

-- At most 1,024 inputs are to be listed, and the table is one of the game and meets its rules. A play of chosen outputs ends at each
-- node, no two are the same, and they are numbered as they are first met: in the first row, and then in those of the nodes in turn.
pub record IsSystemTable {G R M : Type 0} (kept : G → Kept R M) (g : GameData) (k : ℕ) (c : Controller G R M) (t : SystemTable) : Type 0 where
  pub rounds : t.k ≡ k
  pub few_inputs : length (inputs_of g) ≤ 1024
  pub of_game : IsTableOf g (OfSystem t)
  pub sound : first_flaw (system_checks g t) ≡ None
  pub ends : InEachPlay kept c (λ z l h b m. (i : ℕ) (v : NodeData) → slice_get t.nodes i ≡ Some v → (to : Run) × (next : Memory) × ChosenPlay g l to (Some v.state) next × IsNodeOf v v.state next)
  pub differ : NodesDiffer t.nodes
  pub counted : CountsUp 0 (t.first ++ flat_map (λ v. v.next) t.nodes) (length t.nodes)

-- more than 1,024 inputs are to be listed, or plays end at more than 1,024 states and spots
abbrev pub IsTooLarge : {G R M : Type 0} → (G → Kept R M) → GameData → Controller G R M → Type 0
IsTooLarge kept g c = (1024 < length (inputs_of g)) ⊎ InEachPlay kept c (λ z l h b m. AreTooMany g l)
