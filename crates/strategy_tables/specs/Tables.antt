-- Strategies as tables of nodes, and what the numbers in a table name.
use Rattle.std.specs.Prelude.{ℕ, suc, ◌-◌, Bool, true, false, ◌&&◌, ◌==◌, if◌then◌else◌, List, [], ◌∷◌, Option, Some, None, filter, slice_get}
use Rattle.std.specs.List.{list_all}
use Rattle.spec_model.specs.Values.{Assignment, same_value}
use Rattle.spec_model.specs.Games.{GameData, State, inputs_of, outputs_of}
use Rattle.spec_model.specs.Steps.{Before, reached, legal_input, legal_output}
use Rattle.gr1_law.specs.Layers.{goal_set, assumption_set}

-- A node is a state of a play, with what is remembered there: the goal aimed at and the assumption waited for, counted from 1, the
-- rank, the layer, the environment's next input, and the numbers of the nodes that may come next, one for each move in order.
pub record NodeData : Type 0 where
  pub state : State
  pub asm : ℕ
  pub goal : ℕ
  pub rank : ℕ
  pub layer : ℕ
  pub reply : Assignment
  pub next : List ℕ

-- the system's strategy, which claims that each stretch with k rounds meets each recurring guarantee
pub record SystemTable : Type 0 where
  pub k : ℕ
  pub first : List ℕ
  pub nodes : List NodeData

-- the environment's, which claims to beat each system within n shifts and m denials in a row
pub record EnvironmentTable : Type 0 where
  pub n : ℕ
  pub m : ℕ
  pub reply : Assignment
  pub first : List ℕ
  pub nodes : List NodeData

-- ---- what is the same

abbrev pub same_values : Assignment → Assignment → Bool
same_values [] [] = true
same_values (v ∷ vs) (w ∷ ws) = same_value v w && same_values vs ws
same_values _ _ = false

abbrev pub same_numbers : List ℕ → List ℕ → Bool
same_numbers [] [] = true
same_numbers (a ∷ more) (b ∷ others) = (a == b) && same_numbers more others
same_numbers _ _ = false

abbrev pub same_state : State → State → Bool
same_state s t = same_numbers s.hidden t.hidden && (same_values s.position.input t.position.input && same_values s.position.output t.position.output)

-- ---- what is named

-- there is a node, and it passes
abbrev pub some_passes : (NodeData → Bool) → Option NodeData → Bool
some_passes p None = false
some_passes p (Some v) = p v

-- the node passes, where there is one
abbrev pub passes_if_some : (NodeData → Bool) → Option NodeData → Bool
passes_if_some p None = true
passes_if_some p (Some v) = p v

-- the numbers name a node for each of the moves, in order, one that fits
abbrev pub names : {X : Type 0} → List NodeData → (X → NodeData → Bool) → List X → List ℕ → Bool
names nodes fits [] [] = true
names nodes fits (x ∷ xs) (t ∷ ts) = some_passes (fits x) (slice_get nodes t) && names nodes fits xs ts
names nodes fits _ _ = false

-- each node that comes next passes
abbrev pub each_target : List NodeData → NodeData → (NodeData → Bool) → Bool
each_target nodes v test = list_all (λ t. passes_if_some test (slice_get nodes t)) v.next

-- the node's state is the one that the input and the node's own output lead to
abbrev pub is_reached : GameData → Before → Assignment → NodeData → Bool
is_reached g b x v = same_state v.state (reached g b x v.state.position.output)

-- a node for each legal input, by a legal output
abbrev pub system_row : GameData → List NodeData → Before → List ℕ → Bool
system_row g nodes b row = names nodes (λ x v. is_reached g b x v && legal_output g b x v.state.position.output) (filter (legal_input g b) (inputs_of g)) row

-- the input is legal, and there is a node for each legal output after it
abbrev pub environment_row : GameData → List NodeData → Before → Assignment → List ℕ → Bool
environment_row g nodes b x row =
    legal_input g b x && names nodes (λ y v. is_reached g b x v && same_values v.state.position.output y) (filter (legal_output g b x) (outputs_of g)) row

-- ---- goals and assumptions, counted from 1

-- the node's own goal holds in its state, and its own assumption
abbrev pub goal_holds : GameData → NodeData → Bool
goal_holds g v = goal_set g (v.goal - 1) v.state

abbrev pub asm_holds : GameData → NodeData → Bool
asm_holds g v = assumption_set g (v.asm - 1) v.state

-- the next one; after the last comes the first
abbrev pub turned : (count i : ℕ) → ℕ
turned count i = if i == count then 1 else suc i
