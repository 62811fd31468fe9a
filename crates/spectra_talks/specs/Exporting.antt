-- Tables that were written.
use Rattle.std.specs.Prelude.{◌≡◌, ◌⊎◌, ℕ, ◌<◌, List, length, Some}
use Rattle.spec_model.specs.Values.{Assignment}
use Rattle.spec_model.specs.Rules.{Run}
use Rattle.spec_model.specs.Syntax.{Specification}
use Rattle.spec_model.specs.Unrealizable.{NoteData}
use Rattle.spec_model.specs.Games.{GameData, State, inputs_of, outputs_of}
use Rattle.spec_model.specs.Sets.{StateSet}
use Rattle.hidden_game.specs.GameOf.{game_of}
use Rattle.gr1_law.specs.Layers.{LayerSets, IsWinning}
use Rattle.gr1_law.specs.EnvLayers.{EnvLayerSets, AreEnvLayers}
use Rattle.gr1_law.specs.Choice.{Memory, ChosenPlay}
use Rattle.gr1_law.specs.Counter.{CounterMemory, IsGiven, AnsweredPlay}
use Rattle.strategy_tables.specs.Games.{TableData}
use Rattle.strategy_text.specs.Written.{table_text, most_bytes}
use Rattle.spectra_talks.specs.declared.status.Status.{Status}
use Rattle.spectra_talks.specs.Endings.{Ending, exported, size_limit, verified_system, verified_environment}
use Rattle.spectra_talks.specs.Streams.{Moment, Ends, WantsMemory}
use Rattle.spectra_talks.specs.Verifying.{of_table, verify_ending}

-- ---- what is too large

-- where a play of chosen outputs ends
pub record PlayEnd (g : GameData) (l : LayerSets) : Type 0 where
  pub run : Run
  pub state : State
  pub memory : Memory
  pub play : ChosenPlay g l run (Some state) memory

-- plays of chosen outputs end at 1,025 states with what is remembered there, no two of them the same
pub record PlaysEndAtMany (g : GameData) : Type 0 where
  pub winning_states : StateSet
  pub layers : LayerSets
  pub winning : IsWinning g winning_states layers
  pub ends : (n : ℕ) → n < 1025 → PlayEnd g layers
  pub differ : (m n : ℕ) (a : m < 1025) (b : n < 1025) → (ends m a).state ≡ (ends n b).state → (ends m a).memory ≡ (ends n b).memory → m ≡ n

-- where a noted play of given inputs ends, with the next input, and the number of the set that this leads into
pub record CounterplayEnd (g : GameData) (e : EnvLayerSets) : Type 0 where
  pub run : Run
  pub notes : List NoteData
  pub state : State
  pub memory : CounterMemory
  pub rank : ℕ
  pub input : Assignment
  pub play : AnsweredPlay g e run notes (Some state) memory
  pub given : IsGiven g e (Some state) memory rank input

-- noted plays of given inputs end at 1,025 states with what is remembered there and this number, no two of them the same
pub record CounterplaysEndAtMany (g : GameData) : Type 0 where
  pub layers : EnvLayerSets
  pub are_layers : AreEnvLayers g layers
  pub ends : (n : ℕ) → n < 1025 → CounterplayEnd g layers
  pub differ : (m n : ℕ) (a : m < 1025) (b : n < 1025) → (ends m a).state ≡ (ends n b).state → (ends m a).memory ≡ (ends n b).memory → (ends m a).rank ≡ (ends n b).rank → m ≡ n

-- a table of which `verify` would say this has a text of more than 16,777,216 bytes
pub record HasLongText (s : Specification) (says : Ending) : Type 0 where
  pub table : TableData
  pub sound : of_table s (Some table) ≡ says
  pub long : most_bytes < length (table_text s table)

-- a table of the strategy passes a limit: in the moves that are listed, in its nodes, or in its text
abbrev pub IsLargeForSystem : Specification → (k : ℕ) → Type 0
IsLargeForSystem s k = (1024 < length (inputs_of (game_of s))) ⊎ (PlaysEndAtMany (game_of s) ⊎ HasLongText s (verified_system k))

abbrev pub IsLargeForEnvironment : Specification → (n m : ℕ) → Type 0
IsLargeForEnvironment s n m = (1024 < length (outputs_of (game_of s))) ⊎ (CounterplaysEndAtMany (game_of s) ⊎ HasLongText s (verified_environment n m))

-- ---- what is written

-- the text of a table of which `verify` says this
pub record IsTableText (s : Specification) (says : Ending) (text : List ℕ) : Type 0 where
  pub table : TableData
  pub is : text ≡ table_text s table
  pub verified : verify_ending s text ≡ says

module _ (s : Specification) (says : Ending) (is_large : Type 0) (before after : Moment) where
  -- Such a text is written; or a limit is passed, which was told; or no memory was given.
  pub data Exports : Status → Type 0 where
    written : {status : Status} (text : List ℕ) → IsTableText s says text → Ends (exported text) before after status → Exports status
    large : {status : Status} → is_large → Ends size_limit before after status → Exports status
    no_memory : {status : Status} → WantsMemory before after status → Exports status

abbrev pub ExportsSystem : Specification → (k : ℕ) → (before after : Moment) → Status → Type 0
ExportsSystem s k = Exports s (verified_system k) (IsLargeForSystem s k)

abbrev pub ExportsEnvironment : Specification → (n m : ℕ) → (before after : Moment) → Status → Type 0
ExportsEnvironment s n m = Exports s (verified_environment n m) (IsLargeForEnvironment s n m)
