-- Who wins a specification, and with which numbers.
use Rattle.std.specs.Prelude.{◌≡◌, ℕ, true, List, None}
use Rattle.spec_model.specs.Syntax.{Specification}
use Rattle.spec_model.specs.Games.{GameData}
use Rattle.spec_model.specs.Sets.{environment_forces}
use Rattle.spec_model.specs.Verdicts.{SystemWins, EnvironmentWins}
use Rattle.hidden_game.specs.GameOf.{game_of}
use Rattle.gr1_law.specs.EnvLayers.{EnvLayerSets, AreEnvLayers, IsLayerCount, AreDelayCounts, denial_count}
pub use Rattle.gr1_sys.specs.Numbers.{IsWonGame}

-- ---- games

-- The environment wins: it forces the first state into its last layer. N is the number of that layer, and M one more than the
-- greatest ranks together, of the layer from 1 to N and the goal for which they are most.
pub record IsLostGame (g : GameData) (n m : ℕ) : Type 0 where
  pub layers : EnvLayerSets
  pub counts : ℕ → ℕ → List ℕ
  pub are_layers : AreEnvLayers g layers
  pub last : IsLayerCount layers n
  pub greatest : AreDelayCounts g layers n counts
  pub forced : environment_forces g (layers.z n) None ≡ true
  pub denials : m ≡ denial_count g n counts

-- ---- specifications

-- The system wins the specification with K, the number of its game.
pub record IsWonBySystem (s : Specification) (k : ℕ) : Type 0 where
  pub game : IsWonGame (game_of s) k
  pub wins : SystemWins s k

-- The environment wins it with N and M, the numbers of its game.
pub record IsWonByEnvironment (s : Specification) (n m : ℕ) : Type 0 where
  pub game : IsLostGame (game_of s) n m
  pub wins : EnvironmentWins s n m
