-- What a table call takes and gives.
use Rattle.std.specs.Prelude.{◌≡◌, ◌⊎◌, ℕ, ◌<◌, ◌≤◌, ◌++◌, List, length, flat_map, slice_get, None, Some}
use Rattle.spec_model.specs.Values.{Assignment}
use Rattle.spec_model.specs.Syntax.{Specification}
use Rattle.spec_model.specs.Games.{GameData, outputs_of}
use Rattle.regions.specs.Kept.{Kept}
use Rattle.hidden_game.specs.GameOf as expanded
use Rattle.gr1_law.specs.EnvLayers.{EnvLayerSets, denial_count}
use Rattle.gr1_env.specs.Solved.{counts_of}
use Rattle.strategy_parts.specs.Counts.{HasFewGoals}
use Rattle.counterstrategy.specs.declared.counterstrategy.Counterstrategy.{Counterstrategy}
use Rattle.counterstrategy.specs.Objects.{Stands, InEachPlay, game_of}
use Rattle.counterstrategy.specs.Spots.{spot_at}
use Rattle.strategy_tables.specs.Tables.{NodeData, EnvironmentTable}
use Rattle.strategy_tables.specs.Rules.{environment_checks, first_flaw}
use Rattle.strategy_tables.specs.Games.{OfEnvironment, IsTableOf}
use Rattle.played_tables.specs.CounterPlayed.{IsPlayedTable}
use Rattle.counter_tables.specs.Seats.{CountsUp}
use Rattle.counter_tables.specs.Walks.{Ending, IsEnding, AreTooMany}
use Rattle.counter_tables.specs.Nodes.{node_spot}

-- the strategy stands for a play, its game is the specification's, and n and m are its numbers of shifts and of denials in a row
pub record IsCounterplayOf {G R M : Type 0} (kept : G → Kept R M) (s : Specification) (n m : ℕ) (c : Counterstrategy G R M) : Type 0 where
  pub stands : Stands kept c
  pub game : game_of kept c ≡ expanded.game_of s
  pub shifts : n ≡ length c.layers.items
  pub denials : m ≡ denial_count (game_of kept c) (length c.layers.items) (counts_of c.layers.items)

-- The same of a game, whose goals 32 bits count, and whose outputs are these, at most 1,024.
pub record IsCounterplayIn {G R M : Type 0} (kept : G → Kept R M) (g : GameData) (ys : List Assignment) (n m : ℕ) (c : Counterstrategy G R M) : Type 0 where
  pub stands : Stands kept c
  pub game : game_of kept c ≡ g
  pub shifts : n ≡ length c.layers.items
  pub denials : m ≡ denial_count (game_of kept c) (length c.layers.items) (counts_of c.layers.items)
  pub few_goals : HasFewGoals g
  pub outputs : ys ≡ outputs_of g
  pub few_outputs : length ys ≤ 1024

-- a noted play of given inputs ends at the node: in its state, with its spot, and its reply is the input that is given then
pub record EndsAtNode (g : GameData) (e : EnvLayerSets) (v : NodeData) : Type 0 where
  pub ending : Ending
  pub is : IsEnding g e ending
  pub state : ending.before ≡ Some v.state
  pub spot : spot_at ending.memory ending.rank ≡ node_spot v
  pub reply : ending.input ≡ v.reply

-- no two nodes agree in state and spot
abbrev pub NodesDiffer : List NodeData → Type 0
NodesDiffer nodes = (i j : ℕ) (v w : NodeData) → slice_get nodes i ≡ Some v → slice_get nodes j ≡ Some w → v.state ≡ w.state → node_spot v ≡ node_spot w → i ≡ j

-- The table is one of the game, of which at most 1,024 outputs are listed, and meets its rules. By the layers of each play that the strategy stands for, a play ends at each node,
-- the first reply and each node's are the inputs that are given then, and the rows lead on by the outputs. No two nodes agree, and
-- they are numbered as they are first met: in the first row, and then in those of the nodes in turn.
pub record IsEnvironmentTable {G R M : Type 0} (kept : G → Kept R M) (g : GameData) (n m : ℕ) (c : Counterstrategy G R M) (t : EnvironmentTable) : Type 0 where
  pub numbers : (t.n ≡ n) × (t.m ≡ m)
  pub listed : length (outputs_of g) ≤ 1024
  pub of_game : IsTableOf g (OfEnvironment t)
  pub sound : first_flaw (environment_checks g t) ≡ None
  pub plays : InEachPlay kept c (λ e h notes b k. IsPlayedTable g e t × ((i : ℕ) (v : NodeData) → slice_get t.nodes i ≡ Some v → EndsAtNode g e v))
  pub differ : NodesDiffer t.nodes
  pub counted : CountsUp 0 (t.first ++ flat_map (λ v. v.next) t.nodes) (length t.nodes)

-- more than 1,024 outputs are to be listed, or plays end at more than 1,024 states and spots
abbrev pub IsTooLarge : {G R M : Type 0} → (G → Kept R M) → GameData → Counterstrategy G R M → Type 0
IsTooLarge kept g c = (1024 < length (outputs_of g)) ⊎ InEachPlay kept c (λ e h notes b k. AreTooMany g e)
