-- Laws over the definitions alone, each of which the function of its name in src/laws.rt proves.
use Rattle.std.specs.Prelude.{◌≡◌, ℕ, suc, false, ◌+◌, ◌*◌, ◌<◌, ◌≤◌, List, None, Some, length, take, slice_index, sum, IsTrue}
use Rattle.spec_model.specs.Values.{Assignment}
use Rattle.spec_model.specs.Plays.{IsPlay}
use Rattle.spec_model.specs.Rules.{Run, EachWithin}
use Rattle.spec_model.specs.Realizable.{Kept, IsRealizable}
use Rattle.spec_model.specs.Games.{GameData}
use Rattle.spec_model.specs.GameRuns.{state_at, goals_in}
use Rattle.spec_model.specs.Steps.{Before, is_input, legal_input, states_of}
use Rattle.spec_model.specs.Sets.{StateSet, IsPartOf, system_forces}
use Rattle.gr1_law.specs.Layers.{LayerSets, AreLayers, IsWinning, AreGreatestRanks, goal_sets, goal_set, round_count}
use Rattle.gr1_law.specs.Choice.{Memory, Standing, IsChosen, ChosenPlay}
use Rattle.gr1_law.specs.Potential.{potential}
use Rattle.gr1_law.specs.Trails.{RankedTrail}
use Rattle.spec_model.specs.GameRules.{last_state, rules_of_game}

-- the state is in the set, and what is remembered tells of it; before the first move there is none
abbrev pub StandsIn : GameData → StateSet → LayerSets → Before → Memory → Type 0
StandsIn g z l None m = Unit {0}
StandsIn g z l (Some s) m = IsTrue (z s) × Standing g l s m

-- what holds of a run of chosen outputs
pub record ChosenPlayKeeps (g : GameData) (z : StateSet) (l : LayerSets) (k : ℕ) (h : Run) (b : Before) (m : Memory) : Type 0 where
  pub legal : IsPlay (rules_of_game g) h
  pub state : b ≡ last_state g h
  pub stands : StandsIn g z l b m
  pub kept : Kept (rules_of_game g) k h
  pub goes_on : (x : Assignment) → IsTrue (is_input g x) → IsTrue (legal_input g b x) → (y : Assignment) × (m' : Memory) × IsChosen g l b m x y m'

-- Where each legal first input has a legal first output into Z, each run of chosen outputs is a play in Z that keeps each
-- recurring guarantee within K rounds, and an output is chosen after each legal input.
abbrev pub ChosenPlaysKeep : GameData → Type 0
ChosenPlaysKeep g =
    (z : StateSet) (l : LayerSets) (ranks : List ℕ) → IsWinning g z l → AreGreatestRanks g l ranks → IsTrue (system_forces g z None) →
    (h : Run) (b : Before) (m : Memory) → ChosenPlay g l h b m → ChosenPlayKeeps g z l (round_count ranks) h b m

-- so the game is realizable with K
abbrev pub WinningIsRealizable : GameData → Type 0
WinningIsRealizable g =
    (z : StateSet) (l : LayerSets) (ranks : List ℕ) → IsWinning g z l → AreGreatestRanks g l ranks → IsTrue (system_forces g z None) →
    IsRealizable (rules_of_game g) (round_count ranks)

-- Of what is remembered at the positions of a run: a goal's potential is at least 1 and at most the ranks together, and each
-- round, at whose end the run goes on, and in which the goal isn't met, lowers it.
pub record PotentialFalls (g : GameData) (ranks : List ℕ) (h : Run) (memory : ℕ → Memory) (q : ℕ) : Type 0 where
  pub at_least : (t : ℕ) → t < length h → 1 ≤ potential ranks q (memory t)
  pub at_most : (t : ℕ) → t < length h → potential ranks q (memory t) ≤ sum ranks
  pub lower : (from to : ℕ) → from < to → to < length h → EachWithin (goals_in g g.assume) h from to →
      ((t : ℕ) → from ≤ t → t < to → goal_set g q (state_at g h t) ≡ false) → potential ranks q (memory to) < potential ranks q (memory from)

-- What is remembered after each position of a run, where its outputs are the chosen ones; for each goal the potential falls.
pub record IsRemembered (g : GameData) (l : LayerSets) (ranks : List ℕ) (h : Run) : Type 0 where
  pub memory : ℕ → Memory
  pub chosen : (t : ℕ) → t < length h → ChosenPlay g l (take (suc t) h) (Some (state_at g h t)) (memory t)
  pub falls : (q : ℕ) → q < length (goal_sets g) → PotentialFalls g ranks h memory q

abbrev pub RoundsLower : GameData → Type 0
RoundsLower g =
    (z : StateSet) (l : LayerSets) (ranks : List ℕ) → IsWinning g z l → AreGreatestRanks g l ranks → IsTrue (system_forces g z None) →
    (h : Run) (b : Before) (m : Memory) → ChosenPlay g l h b m → IsRemembered g l ranks h

-- What is remembered at the positions of a run of chosen outputs, at its last one with it: the ranks fall, and none is above its
-- goal's greatest one.
abbrev pub ChosenPlaysAreRanked : GameData → Type 0
ChosenPlaysAreRanked g =
    (z : StateSet) (l : LayerSets) (ranks : List ℕ) → IsWinning g z l → AreGreatestRanks g l ranks → IsTrue (system_forces g z None) →
    (h : Run) (b : Before) (m : Memory) → ChosenPlay g l h b m → (memory : ℕ → Memory) × RankedTrail g ranks h memory × ((t : ℕ) → suc t ≡ length h → memory t ≡ m)

-- ---- the sets are told by their equations

-- For each set there are layers, and only these: the parts at rank 0 alone are free.
pub record LayersAreTold (g : GameData) (z : StateSet) : Type 0 where
  pub some : (l : LayerSets) × AreLayers g z l
  pub same_y : (l l' : LayerSets) → AreLayers g z l → AreLayers g z l' → (j r : ℕ) → l.y j r ≡ l'.y j r
  pub same_x : (l l' : LayerSets) → AreLayers g z l → AreLayers g z l' → (j r i : ℕ) → l.x j (suc r) i ≡ l'.x j (suc r) i

-- There is one Z, and one list of greatest ranks; so K is one number. Each layer is part of Z, and each goal's last is Z.
pub record WinningIsTold (g : GameData) : Type 0 where
  pub some : (z : StateSet) × (l : LayerSets) × IsWinning g z l
  pub some_ranks : (z : StateSet) (l : LayerSets) → IsWinning g z l → (ranks : List ℕ) × AreGreatestRanks g l ranks
  pub same : (z z' : StateSet) (l l' : LayerSets) → IsWinning g z l → IsWinning g z' l' → z ≡ z'
  pub same_ranks : (z z' : StateSet) (l l' : LayerSets) (ranks ranks' : List ℕ) → IsWinning g z l → IsWinning g z' l' → AreGreatestRanks g l ranks → AreGreatestRanks g l' ranks' → ranks ≡ ranks'
  pub layers_inside : (z : StateSet) (l : LayerSets) → IsWinning g z l → (j r : ℕ) → IsPartOf (l.y j r) z
  pub last_layers : (z : StateSet) (l : LayerSets) (ranks : List ℕ) → IsWinning g z l → AreGreatestRanks g l ranks → (j : ℕ) → j < length ranks → l.y j (slice_index ranks j) ≡ z

-- no goal has more ranks than there are states
abbrev pub RanksAreFew : GameData → Type 0
RanksAreFew g =
    (z : StateSet) (l : LayerSets) (ranks : List ℕ) → AreLayers g z l → AreGreatestRanks g l ranks →
    round_count ranks ≤ 1 + length (goal_sets g) * length (states_of g)

-- what is remembered and the input determine the output, and what is remembered then
abbrev pub ChoiceIsOne : GameData → Type 0
ChoiceIsOne g = (l : LayerSets) (b : Before) (m : Memory) (x y y' : Assignment) (m' m'' : Memory) → IsChosen g l b m x y m' → IsChosen g l b m x y' m'' → (y ≡ y') × (m' ≡ m'')
