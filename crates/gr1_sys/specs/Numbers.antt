-- The number of rounds within which the system wins a game.
use Rattle.std.specs.Prelude.{◌≡◌, ℕ, true, List, None}
use Rattle.spec_model.specs.Games.{GameData}
use Rattle.spec_model.specs.Sets.{StateSet, system_forces}
use Rattle.gr1_law.specs.Layers.{LayerSets, IsWinning, AreGreatestRanks, round_count}

-- The system wins: it forces the first state into the winning states, and K is one more than the greatest ranks together.
pub record IsWonGame (g : GameData) (k : ℕ) : Type 0 where
  pub winning_states : StateSet
  pub layers : LayerSets
  pub ranks : List ℕ
  pub winning : IsWinning g winning_states layers
  pub greatest : AreGreatestRanks g layers ranks
  pub forced : system_forces g winning_states None ≡ true
  pub rounds : k ≡ round_count ranks
