-- Tables of the system's strategy that plays by layers: its nodes are where plays end, and its rows lead on by the choices.
use Rattle.std.specs.Prelude.{◌≡◌, ℕ, suc, ◌≤◌, List, [], ◌∷◌, Some, None, filter, slice_get}
use Rattle.spec_model.specs.Values.{Assignment}
use Rattle.spec_model.specs.Rules.{Run}
use Rattle.spec_model.specs.Games.{GameData, State, inputs_of}
use Rattle.spec_model.specs.Steps.{Before, legal_input, reached}
use Rattle.spec_model.specs.Sets.{StateSet}
use Rattle.gr1_law.specs.Layers.{LayerSets, round_count}
use Rattle.gr1_law.specs.Choice.{Memory, first_memory, IsChosen, ChosenPlay}
use Rattle.gr1_law.specs.Specifications.{IsWonWith}
use Rattle.strategy_tables.specs.Tables.{NodeData, SystemTable}
use Rattle.strategy_tables.specs.Rules.{system_checks, first_flaw}
use Rattle.strategy_tables.specs.Sound.{HasStates}

-- the node has this state, and what is remembered, goal and assumption counted from 1
pub record IsNodeOf (v : NodeData) (s : State) (m : Memory) : Type 0 where
  pub state : v.state ≡ s
  pub goal : v.goal ≡ suc m.goal
  pub rank : v.rank ≡ m.rank
  pub asm : v.asm ≡ suc m.index

-- the choice after an input leads to the node with this number
pub record LeadsTo (g : GameData) (l : LayerSets) (nodes : List NodeData) (b : Before) (m : Memory) (x : Assignment) (n : ℕ) : Type 0 where
  pub output : Assignment
  pub next : Memory
  pub chosen : IsChosen g l b m x output next
  pub node : NodeData
  pub there : slice_get nodes n ≡ Some node
  pub is : IsNodeOf node (reached g b x output) next

-- the numbers are those of the nodes to which the choices after the inputs lead, in order
abbrev pub LeadEach : GameData → LayerSets → List NodeData → Before → Memory → List Assignment → List ℕ → Type 0
LeadEach g l nodes b m [] [] = Unit {0}
LeadEach g l nodes b m [] (n ∷ ns) = ⊥
LeadEach g l nodes b m (x ∷ xs) [] = ⊥
LeadEach g l nodes b m (x ∷ xs) (n ∷ ns) = LeadsTo g l nodes b m x n × LeadEach g l nodes b m xs ns

-- a row has one for each legal input, in the order of assignments
abbrev pub IsRow : GameData → LayerSets → List NodeData → Before → Memory → List ℕ → Type 0
IsRow g l nodes b m row = LeadEach g l nodes b m (filter (legal_input g b) (inputs_of g)) row

-- a play of chosen outputs ends at the node, and its row leads on from there
pub record IsPlayed (g : GameData) (l : LayerSets) (nodes : List NodeData) (v : NodeData) : Type 0 where
  pub run : Run
  pub memory : Memory
  pub play : ChosenPlay g l run (Some v.state) memory
  pub is : IsNodeOf v v.state memory
  pub row : IsRow g l nodes (Some v.state) memory v.next

pub record IsPlayedTable (g : GameData) (l : LayerSets) (t : SystemTable) : Type 0 where
  pub first : IsRow g l t.nodes None first_memory t.first
  pub each : (i : ℕ) (v : NodeData) → slice_get t.nodes i ≡ Some v → IsPlayed g l t.nodes v

-- such a table meets its rules, where k is at least the number of rounds that the greatest ranks make
abbrev pub PlayedTablesAreSound : GameData → Type 0
PlayedTablesAreSound g =
    (z : StateSet) (l : LayerSets) (ranks : List ℕ) → IsWonWith g z l ranks → (t : SystemTable) → IsPlayedTable g l t → round_count ranks ≤ t.k →
    HasStates g t.nodes × (first_flaw (system_checks g t) ≡ None)
