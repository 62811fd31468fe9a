-- The system's choice of an output, by what it remembers of the play.
use Rattle.std.specs.Prelude.{◌≡◌, ℕ, suc, ◌<◌, Bool, true, false, not, ◌&&◌, ◌==◌, if◌then◌else◌, [], Some, None, length, find, IsTrue}
use Rattle.std.specs.List.{list_any}
use Rattle.spec_model.specs.Values.{Assignment}
use Rattle.spec_model.specs.Rules.{Run, after}
use Rattle.spec_model.specs.Games.{GameData, State, outputs_of}
use Rattle.spec_model.specs.Steps.{Before, is_input, reached, legal_input}
use Rattle.spec_model.specs.Sets.{StateSet, output_into}
use Rattle.gr1_law.specs.Layers.{LayerSets, goal_sets, goal_set, assumption_sets, IsLeastNumber, IsRank}

-- what is remembered of a play: the goal aimed at last, the state's rank for it, and the number of an assumption
pub record Memory : Type 0 where
  pub goal : ℕ
  pub rank : ℕ
  pub index : ℕ

-- before the first move the goal is the first one
abbrev pub first_memory : Memory
first_memory = record { goal = 0; rank = 0; index = 0 }

-- after the last goal comes the first again
abbrev pub next_goal : GameData → ℕ → ℕ
next_goal g j = if suc j == length (goal_sets g) then 0 else suc j

-- The goal aimed at: at the first move the first one, later the next one if the last holds in the present state.
abbrev pub goal_aimed : GameData → Before → Memory → ℕ
goal_aimed g None m = 0
goal_aimed g (Some s) m = if goal_set g m.goal s then next_goal g m.goal else m.goal

-- whether it isn't the first move and the goal stayed
abbrev pub goal_stays : GameData → Before → Memory → Bool
goal_stays g None m = false
goal_stays g (Some s) m = not (goal_set g m.goal s)

-- whether some legal output leads into the set after the input
abbrev pub can_lead : GameData → StateSet → Before → Assignment → Bool
can_lead g t b x = list_any (output_into g t b x) (outputs_of g)

-- whether the move goes on waiting for the same assumption: the goal stayed, and so does the rank
abbrev pub waits : GameData → Before → Memory → ℕ → Bool
waits g b m rank = goal_stays g b m && (rank == m.rank)

-- where an output is to lead: while waiting into the part of the layer for the same assumption, else into the layer
abbrev pub target : GameData → LayerSets → Before → Memory → (goal rank : ℕ) → StateSet
target g l b m goal rank = if waits g b m rank then l.x m.goal m.rank m.index else l.y goal rank

-- The output after a legal input, and what is remembered with it. The rank is the least that some legal output reaches;
-- the output is the first, in declared order, that leads where it is to lead; while waiting the index stays, else it is the
-- least of a part that has the new state.
pub record IsChosen (g : GameData) (l : LayerSets) (b : Before) (m : Memory) (x y : Assignment) (m' : Memory) : Type 0 where
  pub goal : m'.goal ≡ goal_aimed g b m
  pub rank : IsLeastNumber (λ r. IsTrue (can_lead g (l.y m'.goal r) b x)) m'.rank
  pub output : find (output_into g (target g l b m m'.goal m'.rank) b x) (outputs_of g) ≡ Some y
  pub kept : waits g b m m'.rank ≡ true → m'.index ≡ m.index
  pub index : waits g b m m'.rank ≡ false → IsLeastNumber (λ i. IsTrue (l.x m'.goal m'.rank i (reached g b x y))) m'.index

-- What is remembered tells of the state: it has the rank for the goal, and is in the part with the index.
pub record Standing (g : GameData) (l : LayerSets) (s : State) (m : Memory) : Type 0 where
  pub goal_in : m.goal < length (goal_sets g)
  pub index_in : m.index < length (assumption_sets g)
  pub rank : IsRank l m.goal s m.rank
  pub part : IsTrue (l.x m.goal m.rank m.index s)

-- A run whose outputs are the chosen ones for legal inputs, with its last state, and what is remembered at its end.
pub data ChosenPlay (g : GameData) (l : LayerSets) : Run → Before → Memory → Type 0 where
  nothing : ChosenPlay g l [] None first_memory
  more : (h : Run) (b : Before) (m : Memory) (x y : Assignment) (m' : Memory) → ChosenPlay g l h b m →
      IsTrue (is_input g x) → IsTrue (legal_input g b x) → IsChosen g l b m x y m' →
      ChosenPlay g l (after h x y) (Some (reached g b x y)) m'
