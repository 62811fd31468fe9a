-- The lost states of a game without goals, and the numbers that they make.
use Rattle.std.specs.Prelude.{◌≡◌, ◌⊎◌, ℕ, zero, suc, ◌<◌}
use Rattle.spec_model.specs.Games.{GameData}
use Rattle.spec_model.specs.Sets.{StateSet, no_states, pre_env}

-- the states from which the environment has the system without a legal reply after so many positions
abbrev pub lost_within : GameData → ℕ → StateSet
lost_within g zero = no_states
lost_within g (suc a) = pre_env g (lost_within g a)

-- The least number of positions after which no more states are lost.
pub record IsShiftCount (g : GameData) (n : ℕ) : Type 0 where
  pub settled : lost_within g n ≡ lost_within g (suc n)
  pub least : (a : ℕ) → a < n → lost_within g a ≡ lost_within g (suc a) → ⊥

-- K: one more than the only rank, which is 1 where Z has a state
abbrev pub IsRoundCount : StateSet → ℕ → Type 0
IsRoundCount z k = (z ≡ no_states) × (k ≡ 1) ⊎ (z ≡ no_states → ⊥) × (k ≡ 2)

-- M: 1 where no state is lost, else 2
abbrev pub IsDenialCount : ℕ → ℕ → Type 0
IsDenialCount n m = (n ≡ 0) × (m ≡ 1) ⊎ (n ≡ 0 → ⊥) × (m ≡ 2)
