-- What the layers of a game say of a specification that it agrees with; src/specification_laws.rt proves each.
use Rattle.std.specs.Prelude.{◌≡◌, ◌⊎◌, ℕ, List, [], ◌∷◌, ◌++◌, Some, None, IsTrue}
use Rattle.spec_model.specs.Values.{Assignment}
use Rattle.spec_model.specs.Syntax.{Specification}
use Rattle.spec_model.specs.Plays.{IsPlay}
use Rattle.spec_model.specs.Rules.{Run, after}
use Rattle.spec_model.specs.Unrealizable.{NoteData, Beaten}
use Rattle.spec_model.specs.Moves.{legal_input, legal_output, rules_of}
use Rattle.spec_model.specs.Realizable.{Kept, IsRealizable}
use Rattle.spec_model.specs.Verdicts.{SystemWins, EnvironmentWins}
use Rattle.spec_model.specs.Cores.{Realizable, Unrealizable}
use Rattle.spec_model.specs.Games.{GameData}
use Rattle.spec_model.specs.GameRules.{last_state}
use Rattle.spec_model.specs.Steps.{Before, reached}
use Rattle.spec_model.specs.Sets.{StateSet, system_forces, pre_sys, IsGreatest}
use Rattle.gr1_law.specs.SafeGames.{IsRoundCount}
use Rattle.gr1_law.specs.Layers.{LayerSets, IsWinning, AreGreatestRanks, round_count}
use Rattle.gr1_law.specs.Choice.{Memory, IsChosen, ChosenPlay}
use Rattle.gr1_law.specs.EnvLayers.{EnvLayerSets, IsLayerCount, denial_count}
use Rattle.gr1_law.specs.Counter.{CounterMemory, IsGiven, note_of, AnsweredPlay}
use Rattle.gr1_law.specs.CounterLaws.{IsLostWith}

-- the system wins the game with these layers and ranks: it forces the first state into Z
pub record IsWonWith (g : GameData) (z : StateSet) (l : LayerSets) (ranks : List ℕ) : Type 0 where
  pub winning : IsWinning g z l
  pub greatest : AreGreatestRanks g l ranks
  pub forced : IsTrue (system_forces g z None)

-- so the specification is realizable with K
abbrev pub SpecificationIsRealizable : Specification → GameData → Type 0
SpecificationIsRealizable s g = (z : StateSet) (l : LayerSets) (ranks : List ℕ) → IsWonWith g z l ranks → IsRealizable (rules_of s) (round_count ranks)

-- K is within the bound that is printed
abbrev pub SystemWinsWithRanks : Specification → GameData → Type 0
SystemWinsWithRanks s g = (z : StateSet) (l : LayerSets) (ranks : List ℕ) → IsWonWith g z l ranks → SystemWins s (round_count ranks)

-- What holds of a run of chosen outputs: each move is legal by the specification, the state is that of the last position with
-- its hidden values, and after each input that the specification allows an output is chosen that it allows.
pub record ChosenPlayKeepsSpecification (s : Specification) (g : GameData) (l : LayerSets) (k : ℕ) (h : Run) (b : Before) (m : Memory) : Type 0 where
  pub legal : IsPlay (rules_of s) h
  pub state : b ≡ last_state g h
  pub kept : Kept (rules_of s) k h
  pub goes_on : (x : Assignment) → IsTrue (legal_input s h x) → (y : Assignment) × (m' : Memory) × IsChosen g l b m x y m' × IsTrue (legal_output s h x y)

abbrev pub ChosenPlaysKeepTheSpecification : Specification → GameData → Type 0
ChosenPlaysKeepTheSpecification s g =
    (z : StateSet) (l : LayerSets) (ranks : List ℕ) → IsWonWith g z l ranks →
    (h : Run) (b : Before) (m : Memory) → ChosenPlay g l h b m → ChosenPlayKeepsSpecification s g l (round_count ranks) h b m

-- ---- where nothing recurs

-- Z is the greatest set in which the system can stay; K is 2 where it has a state, and 1 where it has none
abbrev pub SafetyIsASpecialCase : GameData → Type 0
SafetyIsASpecialCase g =
    (z : StateSet) (l : LayerSets) (ranks : List ℕ) → IsWinning g z l → AreGreatestRanks g l ranks → IsGreatest (pre_sys g) z × IsRoundCount z (round_count ranks)

-- so the system wins by staying in that set, with its number
abbrev pub StayingWins : Specification → GameData → Type 0
StayingWins s g = (z : StateSet) (k : ℕ) → IsGreatest (pre_sys g) z → IsTrue (system_forces g z None) → IsRoundCount z k → SystemWins s k

-- ---- the environment's side, and both

-- N and M are within the bounds that are printed
abbrev pub EnvironmentWinsWithLayers : Specification → GameData → Type 0
EnvironmentWinsWithLayers s g =
    (e : EnvLayerSets) (n : ℕ) (counts : ℕ → ℕ → List ℕ) → IsLostWith g e n counts → IsLayerCount e n → EnvironmentWins s n (denial_count g n counts)

-- What holds of a run of given inputs and legal replies: each move is legal by the specification, it beats the system, an input
-- is given after it that the specification allows, and after each reply that it allows the play goes on.
pub record AnsweredPlayBeatsSpecification (s : Specification) (g : GameData) (e : EnvLayerSets) (n m : ℕ) (h : Run) (notes : List NoteData) (b : Before) (k : CounterMemory) : Type 0 where
  pub legal : IsPlay (rules_of s) h
  pub state : b ≡ last_state g h
  pub beaten : Beaten (rules_of s) n m h notes
  pub goes_on : (r : ℕ) × (x : Assignment) × IsGiven g e b k r x
  pub input : (r : ℕ) (x : Assignment) → IsGiven g e b k r x → IsTrue (legal_input s h x)
  pub answered : (r : ℕ) (x y : Assignment) → IsGiven g e b k r x → IsTrue (legal_output s h x y) →
      (k' : CounterMemory) × AnsweredPlay g e (after h x y) (notes ++ note_of g k' ∷ []) (Some (reached g b x y)) k'

abbrev pub AnsweredPlaysBeatTheSpecification : Specification → GameData → Type 0
AnsweredPlaysBeatTheSpecification s g =
    (e : EnvLayerSets) (n : ℕ) (counts : ℕ → ℕ → List ℕ) → IsLostWith g e n counts →
    (h : Run) (notes : List NoteData) (b : Before) (k : CounterMemory) → AnsweredPlay g e h notes b k → AnsweredPlayBeatsSpecification s g e n (denial_count g n counts) h notes b k

-- the system wins with some number, or the environment with some
abbrev pub OneWins : Specification → Type 0
OneWins s = ((k : ℕ) × SystemWins s k) ⊎ ((n : ℕ) × (m : ℕ) × EnvironmentWins s n m)

-- within the bounds the specification is realizable, or it is unrealizable
abbrev pub OneIsTrue : Specification → Type 0
OneIsTrue s = Realizable s ⊎ Unrealizable s
