-- Tables of the environment's strategy that plays by layers: its nodes are where noted plays end, and its rows lead on by the replies.
use Rattle.std.specs.Prelude.{◌≡◌, ℕ, suc, ◌≤◌, true, List, [], ◌∷◌, Some, None, filter, slice_get}
use Rattle.spec_model.specs.Values.{Assignment}
use Rattle.spec_model.specs.Rules.{Run}
use Rattle.spec_model.specs.Unrealizable.{NoteData}
use Rattle.spec_model.specs.Games.{GameData, State, outputs_of}
use Rattle.spec_model.specs.Steps.{Before, legal_output, reached}
use Rattle.gr1_law.specs.EnvLayers.{EnvLayerSets, denial_count}
use Rattle.gr1_law.specs.Counter.{CounterMemory, first_counter, IsGiven, IsNoted, AnsweredPlay}
use Rattle.gr1_law.specs.CounterLaws.{IsLostWith}
use Rattle.strategy_tables.specs.Tables.{NodeData, EnvironmentTable}
use Rattle.strategy_tables.specs.Rules.{environment_checks, first_flaw}
use Rattle.strategy_tables.specs.Sound.{HasStates, HasReplies}

-- The node has this state, and what is remembered, goal and assumption counted from 1; after a denial its rank is the number of the
-- iterate that the next input leads into, and that input is its reply.
pub record IsNodeOf (v : NodeData) (s : State) (k : CounterMemory) (r : ℕ) (x : Assignment) : Type 0 where
  pub state : v.state ≡ s
  pub layer : v.layer ≡ k.layer
  pub goal : v.goal ≡ suc k.goal
  pub asm : v.asm ≡ suc k.before
  pub rank : k.denying ≡ true → v.rank ≡ r
  pub reply : v.reply ≡ x

-- an output leads to the node with this number
pub record LeadsTo (g : GameData) (e : EnvLayerSets) (nodes : List NodeData) (b : Before) (k : CounterMemory) (x y : Assignment) (n : ℕ) : Type 0 where
  pub next : CounterMemory
  pub noted : IsNoted g e k (reached g b x y) next
  pub rank : ℕ
  pub reply : Assignment
  pub given : IsGiven g e (Some (reached g b x y)) next rank reply
  pub node : NodeData
  pub there : slice_get nodes n ≡ Some node
  pub is : IsNodeOf node (reached g b x y) next rank reply

-- the numbers are those of the nodes to which the outputs lead, in order
abbrev pub LeadEach : GameData → EnvLayerSets → List NodeData → Before → CounterMemory → Assignment → List Assignment → List ℕ → Type 0
LeadEach g e nodes b k x [] [] = Unit {0}
LeadEach g e nodes b k x [] (n ∷ ns) = ⊥
LeadEach g e nodes b k x (y ∷ ys) [] = ⊥
LeadEach g e nodes b k x (y ∷ ys) (n ∷ ns) = LeadsTo g e nodes b k x y n × LeadEach g e nodes b k x ys ns

-- a row has one for each legal output after the input, in the order of assignments
abbrev pub IsRow : GameData → EnvLayerSets → List NodeData → Before → CounterMemory → Assignment → List ℕ → Type 0
IsRow g e nodes b k x row = LeadEach g e nodes b k x (filter (legal_output g b x) (outputs_of g)) row

-- a noted play of given inputs ends at the node, its reply is the input that is given then, and its row leads on from there
pub record IsPlayed (g : GameData) (e : EnvLayerSets) (nodes : List NodeData) (v : NodeData) : Type 0 where
  pub run : Run
  pub notes : List NoteData
  pub memory : CounterMemory
  pub play : AnsweredPlay g e run notes (Some v.state) memory
  pub rank : ℕ
  pub given : IsGiven g e (Some v.state) memory rank v.reply
  pub is : IsNodeOf v v.state memory rank v.reply
  pub row : IsRow g e nodes (Some v.state) memory v.reply v.next

pub record IsPlayedTable (g : GameData) (e : EnvLayerSets) (t : EnvironmentTable) : Type 0 where
  pub rank : ℕ
  pub given : IsGiven g e None first_counter rank t.reply
  pub first : IsRow g e t.nodes None first_counter t.reply t.first
  pub each : (i : ℕ) (v : NodeData) → slice_get t.nodes i ≡ Some v → IsPlayed g e t.nodes v

-- such a table meets its rules, where n and m are at least the numbers of shifts and of denials in a row that the layers make
abbrev pub AnsweredTablesAreSound : GameData → Type 0
AnsweredTablesAreSound g =
    (e : EnvLayerSets) (n : ℕ) (counts : ℕ → ℕ → List ℕ) → IsLostWith g e n counts → (t : EnvironmentTable) → IsPlayedTable g e t → n ≤ t.n → denial_count g n counts ≤ t.m →
    HasStates g t.nodes × HasReplies g t × (first_flaw (environment_checks g t) ≡ None)
