-- What is remembered at each position of a run, and what follows of the run from that alone: of a run whose ranks fall towards
-- the goal aimed at, and of one whose denials wait for the assumption aimed at.
use Rattle.std.specs.Prelude.{◌≡◌, ℕ, suc, ◌<◌, ◌≤◌, Bool, true, false, not, if◌then◌else◌, List, Some, length, slice_get, slice_index, sum, IsTrue}
use Rattle.spec_model.specs.Rules.{Run}
use Rattle.spec_model.specs.Realizable.{Kept}
use Rattle.spec_model.specs.Unrealizable.{NoteData, Beaten}
use Rattle.spec_model.specs.Games.{GameData, State}
use Rattle.spec_model.specs.GameRuns.{state_at}
use Rattle.spec_model.specs.GameRules.{rules_of_game}
use Rattle.spec_model.specs.Steps.{is_state}
use Rattle.spec_model.specs.Sets.{rest}
use Rattle.gr1_law.specs.Layers.{goal_sets, goal_set, assumption_sets, assumption_set, round_count}
use Rattle.gr1_law.specs.Choice.{Memory, next_goal}
use Rattle.gr1_law.specs.Counter.{CounterMemory, next_assumption, note_of}

-- ---- the system's side

-- From a state where the goal aimed at holds, the next goal is aimed at. Else the rank falls, or it stays with the index,
-- and the index's assumption is false.
pub data Lowers (g : GameData) (s : State) (m m' : Memory) : Type 0 where
  met : goal_set g m.goal s ≡ true → m'.goal ≡ next_goal g m.goal → Lowers g s m m'
  lower : goal_set g m.goal s ≡ false → m'.goal ≡ m.goal → m'.rank < m.rank → Lowers g s m m'
  waiting : goal_set g m.goal s ≡ false → m'.goal ≡ m.goal → m'.rank ≡ m.rank → m'.index ≡ m.index → rest g (assumption_set g m.index) s ≡ true → Lowers g s m m'

-- What is remembered at each position of a run: the ranks fall towards the goal aimed at, and none is above its goal's.
pub record RankedTrail (g : GameData) (ranks : List ℕ) (h : Run) (memory : ℕ → Memory) : Type 0 where
  pub counted : length ranks ≡ length (goal_sets g)
  pub states : (t : ℕ) → t < length h → IsTrue (is_state g (state_at g h t))
  pub goal_in : (t : ℕ) → t < length h → (memory t).goal < length (goal_sets g)
  pub index_in : (t : ℕ) → t < length h → (memory t).index < length (assumption_sets g)
  pub rank_some : (t : ℕ) → t < length h → 1 ≤ (memory t).rank
  pub rank_most : (t : ℕ) → t < length h → (memory t).rank ≤ slice_index ranks (memory t).goal
  pub moves : (t : ℕ) → suc t < length h → Lowers g (state_at g h t) (memory t) (memory (suc t))

-- such a run keeps each recurring guarantee within one round more than the ranks together
abbrev pub RankedTrailsKeep : GameData → Type 0
RankedTrailsKeep g = (ranks : List ℕ) (h : Run) (memory : ℕ → Memory) → RankedTrail g ranks h memory → Kept (rules_of_game g) (round_count ranks) h

-- ---- the environment's side

-- What is noted and remembered at each position of a run. The rank counts the positions up to the one that meets the assumption
-- aimed at. At a denying position it is at most the count for its layer, its goal and that assumption, and the counts of a layer
-- and a goal are together fewer than `m`.
pub record FollowedTrail (g : GameData) (n m : ℕ) (counts : ℕ → ℕ → List ℕ) (h : Run) (notes : List NoteData) (memory : ℕ → CounterMemory) (rank : ℕ → ℕ) : Type 0 where
  pub noted_all : length notes ≡ length h
  pub states : (t : ℕ) → t < length h → IsTrue (is_state g (state_at g h t))
  pub noted : (t : ℕ) → t < length h → slice_get notes t ≡ Some (note_of g (memory t))
  pub denying : (t : ℕ) → t < length h → (memory t).denying ≡ not (goal_set g (memory t).goal (state_at g h t))
  pub layer_some : (t : ℕ) → t < length h → 1 ≤ (memory t).layer
  pub goal_in : (t : ℕ) → t < length h → (memory t).goal < length (goal_sets g)
  pub before_in : (t : ℕ) → t < length h → (memory t).before < length (assumption_sets g)
  pub counted : (t : ℕ) → t < length h → (memory t).denying ≡ true → length (counts (memory t).layer (memory t).goal) ≡ length (assumption_sets g)
  pub sum_few : (t : ℕ) → t < length h → (memory t).denying ≡ true → sum (counts (memory t).layer (memory t).goal) < m
  pub rank_some : (t : ℕ) → t < length h → (memory t).denying ≡ true → 1 ≤ rank t
  pub rank_most : (t : ℕ) → t < length h → (memory t).denying ≡ true → rank t ≤ slice_index (counts (memory t).layer (memory t).goal) (memory t).before
  pub start : 1 ≤ length h → (memory 0).layer ≤ n
  pub shifts : (t : ℕ) → suc t < length h → (memory t).denying ≡ false → (memory (suc t)).layer < (memory t).layer
  pub same_layer : (t : ℕ) → suc t < length h → (memory t).denying ≡ true → (memory (suc t)).layer ≡ (memory t).layer
  pub same_goal : (t : ℕ) → suc t < length h → (memory t).denying ≡ true → (memory (suc t)).goal ≡ (memory t).goal
  pub aims : (t : ℕ) → suc t < length h → (memory t).denying ≡ true →
      (memory (suc t)).before ≡ (if assumption_set g (memory t).before (state_at g h t) then next_assumption g (memory t).before else (memory t).before)
  pub lower : (t : ℕ) → suc t < length h → (memory t).denying ≡ true → (memory (suc t)).denying ≡ true → assumption_set g (memory t).before (state_at g h t) ≡ false → rank (suc t) < rank t

-- such a run beats each system within n shifts and m denials in a row
abbrev pub FollowedTrailsBeat : GameData → Type 0
FollowedTrailsBeat g =
    (n m : ℕ) (counts : ℕ → ℕ → List ℕ) (h : Run) (notes : List NoteData) (memory : ℕ → CounterMemory) (rank : ℕ → ℕ) →
    FollowedTrail g n m counts h notes memory rank → 1 ≤ m → Beaten (rules_of_game g) n m h notes
