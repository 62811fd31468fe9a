-- The environment's choice of an input, what it remembers of the play, and what it notes of each position.
use Rattle.std.specs.Prelude.{◌≡◌, ℕ, suc, Bool, true, false, not, ◌==◌, if◌then◌else◌, List, [], ◌∷◌, ◌++◌, Some, None, length, map, get_or, find, IsTrue}
use Rattle.spec_model.specs.declared.game.Label.{Label}
use Rattle.spec_model.specs.Values.{Assignment}
use Rattle.spec_model.specs.Rules.{Run, after}
use Rattle.spec_model.specs.Unrealizable.{NoteData, Shift, Deny}
use Rattle.spec_model.specs.Games.{GameData, State, inputs_of}
use Rattle.spec_model.specs.Steps.{Before, is_output, legal_output, reached}
use Rattle.spec_model.specs.Sets.{StateSet, input_into, environment_forces}
use Rattle.gr1_law.specs.Layers.{goal_set, assumption_sets, assumption_set, IsLeastNumber}
use Rattle.gr1_law.specs.EnvLayers.{EnvLayerSets}

-- What is remembered after a position: whether it denies a goal, the layer and the goal, and the assumption aimed at: when the
-- position came, and from there on.
pub record CounterMemory : Type 0 where
  pub denying : Bool
  pub layer : ℕ
  pub goal : ℕ
  pub before : ℕ
  pub index : ℕ

-- before the first position nothing is denied
abbrev pub first_counter : CounterMemory
first_counter = record { denying = false; layer = 0; goal = 0; before = 0; index = 0 }

-- after the last assumption comes the first again
abbrev pub next_assumption : GameData → ℕ → ℕ
next_assumption g i = if suc i == length (assumption_sets g) then 0 else suc i

-- where the next input is to lead, a set for each number: into the hold's iterates for the assumption aimed at after a denial,
-- else into the layers
abbrev pub targets : EnvLayerSets → CounterMemory → ℕ → StateSet
targets e k = if k.denying then e.x k.layer k.goal k.index else e.z

-- The next input: the first, in declared order, that forces the state into the first of the sets into which it can be forced.
pub record IsGiven (g : GameData) (e : EnvLayerSets) (b : Before) (k : CounterMemory) (r : ℕ) (x : Assignment) : Type 0 where
  pub number : IsLeastNumber (λ r. IsTrue (environment_forces g (targets e k r) b)) r
  pub input : find (input_into g (targets e k r) b) (inputs_of g) ≡ Some x

-- What is remembered after the reply, by the new state. After a denial layer and goal stay. Else they are the first layer that
-- has the state, and the first goal above it whose hold has the state. The goal is denied where it is false, and once the
-- assumption aimed at holds the next is aimed at.
pub record IsNoted (g : GameData) (e : EnvLayerSets) (k : CounterMemory) (s : State) (k' : CounterMemory) : Type 0 where
  pub stays : k.denying ≡ true → (k'.layer ≡ k.layer) × (k'.goal ≡ k.goal) × (k'.before ≡ k.index)
  pub anew : k.denying ≡ false → IsLeastNumber (λ a. IsTrue (e.z a s)) k'.layer × IsLeastNumber (λ j. IsTrue (e.y k'.layer j s)) k'.goal × (k'.before ≡ 0)
  pub denying : k'.denying ≡ not (goal_set g k'.goal s)
  pub index : k'.index ≡ (if assumption_set g k'.before s then next_assumption g k'.before else k'.before)

-- the label of the goal with a number
abbrev pub label_at : GameData → ℕ → Label
label_at g j = get_or (map (λ goal. goal.label) g.goals) j (record { line = 0; part = 0 })

-- a position that denies a goal is noted as doing so, and any other as a shift
abbrev pub note_of : GameData → CounterMemory → NoteData
note_of g k = if k.denying then Deny (label_at g k.goal) else Shift

-- A run of given inputs and legal outputs, with its notes, its last state, and what is remembered at its end.
pub data AnsweredPlay (g : GameData) (e : EnvLayerSets) : Run → List NoteData → Before → CounterMemory → Type 0 where
  nothing : AnsweredPlay g e [] [] None first_counter
  more : (h : Run) (notes : List NoteData) (b : Before) (k : CounterMemory) (r : ℕ) (x y : Assignment) (k' : CounterMemory) → AnsweredPlay g e h notes b k →
      IsGiven g e b k r x → IsTrue (is_output g y) → IsTrue (legal_output g b x y) → IsNoted g e k (reached g b x y) k' →
      AnsweredPlay g e (after h x y) (notes ++ note_of g k' ∷ []) (Some (reached g b x y)) k'
