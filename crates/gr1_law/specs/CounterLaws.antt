-- Laws of the environment's choices, each of which the function of its name in src/counter_laws.rt proves.
use Rattle.std.specs.Prelude.{◌≡◌, ℕ, suc, true, false, ◌<◌, ◌≤◌, List, Some, None, length, take, sum, IsTrue}
use Rattle.spec_model.specs.Values.{Assignment}
use Rattle.spec_model.specs.Plays.{IsPlay}
use Rattle.spec_model.specs.Rules.{Run}
use Rattle.spec_model.specs.Unrealizable.{NoteData, Beaten, IsUnrealizable, same_label}
use Rattle.spec_model.specs.Games.{GameData, State}
use Rattle.spec_model.specs.GameRuns.{state_at}
use Rattle.spec_model.specs.GameRules.{last_state, rules_of_game}
use Rattle.spec_model.specs.Steps.{Before, is_input, is_output, legal_input, legal_output, reached}
use Rattle.spec_model.specs.Sets.{environment_forces}
use Rattle.gr1_law.specs.Layers.{assumption_sets, assumption_set, IsLeastNumber}
use Rattle.gr1_law.specs.EnvLayers.{EnvLayerSets, AreEnvLayers, AreDelayCounts, denial_count}
use Rattle.gr1_law.specs.Counter.{CounterMemory, IsGiven, IsNoted, AnsweredPlay, label_at}
use Rattle.gr1_law.specs.Potential.{denial_potential}

-- no two goals have one label, so each denied label is that of one goal
abbrev pub LabelsDiffer : GameData → Type 0
LabelsDiffer g = (i j : ℕ) → i < j → j < length g.goals → same_label (label_at g i) (label_at g j) ≡ false

-- the environment wins the game with these layers and greatest ranks: it forces the first state into the last layer
pub record IsLostWith (g : GameData) (e : EnvLayerSets) (n : ℕ) (counts : ℕ → ℕ → List ℕ) : Type 0 where
  pub layers : AreEnvLayers g e
  pub delays : AreDelayCounts g e n counts
  pub forced : IsTrue (environment_forces g (e.z n) None)

-- what holds of an answered play
pub record AnsweredPlayBeats (g : GameData) (e : EnvLayerSets) (n m : ℕ) (h : Run) (notes : List NoteData) (b : Before) (k : CounterMemory) : Type 0 where
  pub legal : IsPlay (rules_of_game g) h
  pub state : b ≡ last_state g h
  pub beaten : Beaten (rules_of_game g) n m h notes
  pub goes_on : (r : ℕ) × (x : Assignment) × IsGiven g e b k r x
  pub input : (r : ℕ) (x : Assignment) → IsGiven g e b k r x → IsTrue (is_input g x) × IsTrue (legal_input g b x)
  pub answered : (r : ℕ) (x y : Assignment) → IsGiven g e b k r x → IsTrue (is_output g y) → IsTrue (legal_output g b x y) → (k' : CounterMemory) × IsNoted g e k (reached g b x y) k'

-- Each answered play is a play that beats the system within N shifts and M denials in a row; an input is given after it, a
-- legal one, and something is remembered after each legal reply.
abbrev pub AnsweredPlaysBeat : GameData → Type 0
AnsweredPlaysBeat g =
    (e : EnvLayerSets) (n : ℕ) (counts : ℕ → ℕ → List ℕ) → IsLostWith g e n counts →
    (h : Run) (notes : List NoteData) (b : Before) (k : CounterMemory) → AnsweredPlay g e h notes b k → AnsweredPlayBeats g e n (denial_count g n counts) h notes b k

-- so the game is unrealizable with N and M
abbrev pub LosingIsUnrealizable : GameData → Type 0
LosingIsUnrealizable g = (e : EnvLayerSets) (n : ℕ) (counts : ℕ → ℕ → List ℕ) → IsLostWith g e n counts → IsUnrealizable (rules_of_game g) n (denial_count g n counts)

-- what is remembered determines the input, and with the state that it leads to what is remembered then
pub record AnswerIsOne (g : GameData) (e : EnvLayerSets) : Type 0 where
  pub input : (b : Before) (k : CounterMemory) (r r' : ℕ) (x x' : Assignment) → IsGiven g e b k r x → IsGiven g e b k r' x' → (r ≡ r') × (x ≡ x')
  pub memory : (k : CounterMemory) (s : State) (k' k'' : CounterMemory) → IsNoted g e k s k' → IsNoted g e k s k'' → k' ≡ k''

-- ---- what falls

-- the potential at a position, in the hold that is remembered there
abbrev pub potential_at : (ℕ → ℕ → List ℕ) → (ℕ → CounterMemory) → (ℕ → ℕ) → (q t : ℕ) → ℕ
potential_at counts memory rank q t = denial_potential (counts (memory t).layer (memory t).goal) q (rank t) (memory t)

-- Of what is remembered at the positions of a run: an assumption's potential is at least 1 and at most the ranks of the hold
-- together, and each denial at which the assumption fails, and after which the run goes on, keeps the hold and lowers it.
pub record DenialsFall (g : GameData) (counts : ℕ → ℕ → List ℕ) (h : Run) (memory : ℕ → CounterMemory) (rank : ℕ → ℕ) (q : ℕ) : Type 0 where
  pub at_least : (t : ℕ) → t < length h → 1 ≤ potential_at counts memory rank q t
  pub at_most : (t : ℕ) → t < length h → potential_at counts memory rank q t ≤ sum (counts (memory t).layer (memory t).goal)
  pub lower : (t : ℕ) → suc t < length h → (memory t).denying ≡ true → assumption_set g q (state_at g h t) ≡ false →
      ((memory (suc t)).layer ≡ (memory t).layer) × ((memory (suc t)).goal ≡ (memory t).goal) × (potential_at counts memory rank q (suc t) < potential_at counts memory rank q t)

-- What is remembered after each position of an answered play, with the state's rank; for each assumption the potential falls.
pub record DenialsAreRemembered (g : GameData) (e : EnvLayerSets) (counts : ℕ → ℕ → List ℕ) (h : Run) (notes : List NoteData) : Type 0 where
  pub memory : ℕ → CounterMemory
  pub rank : ℕ → ℕ
  pub answered : (t : ℕ) → t < length h → AnsweredPlay g e (take (suc t) h) (take (suc t) notes) (Some (state_at g h t)) (memory t)
  pub ranked : (t : ℕ) → t < length h → IsLeastNumber (λ r. IsTrue (e.x (memory t).layer (memory t).goal (memory t).before r (state_at g h t))) (rank t)
  pub falls : (q : ℕ) → q < length (assumption_sets g) → DenialsFall g counts h memory rank q

abbrev pub DenialsLower : GameData → Type 0
DenialsLower g =
    (e : EnvLayerSets) (n : ℕ) (counts : ℕ → ℕ → List ℕ) → IsLostWith g e n counts →
    (h : Run) (notes : List NoteData) (b : Before) (k : CounterMemory) → AnsweredPlay g e h notes b k → DenialsAreRemembered g e counts h notes
