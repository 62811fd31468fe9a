-- A play that the nodes of a table go along with, and how it goes on.
use Rattle.std.proofs.Common.{◌≡◌, ℕ, suc, ◌-◌, ◌<◌, ◌⊎◌, inl, inr, List, [], ◌∷◌, length, slice_get, Some, sym, ◌∙◌, ap, arith}
use Rattle.spec_model.specs.Values.{Assignment}
use Rattle.spec_model.specs.Rules.{Run, Position, after}
use Rattle.spec_model.specs.Games.{GameData}
use Rattle.spec_model.specs.GameRuns.{state_at}
use Rattle.spec_model.specs.GameRules.{last_state}
use Rattle.spec_model.specs.Steps.{reached}
use Rattle.spec_model.proofs.Running.{length-after, state_at-earlier, state_at-last}
use Rattle.gr1_law.proofs.Lengthening.{with_last, with_last-here, with_last-before}
use Rattle.strategy_tables.specs.Tables.{NodeData}

-- Each position of the run has its node: the node's state is the run's, and each comes next to the one before it.
pub record Walk (g : GameData) (nodes : List NodeData) (h : Run) (node : ℕ → NodeData) : Type 0 where
  pub number : ℕ → ℕ
  pub in_table : (p : ℕ) → p < length h → slice_get nodes (number p) ≡ Some (node p)
  pub states : (p : ℕ) → p < length h → (node p).state ≡ state_at g h p
  pub place : ℕ → ℕ
  pub moves : (p : ℕ) → suc p < length h → slice_get (node p).next (place p) ≡ Some (number (suc p))

-- a node that a row names, whose state is the one that an input and its own output lead to
pub record Next (g : GameData) (nodes : List NodeData) (h : Run) (row : List ℕ) (x : Assignment) : Type 0 where
  pub place : ℕ
  pub number : ℕ
  pub node : NodeData
  pub in_row : slice_get row place ≡ Some number
  pub in_table : slice_get nodes number ≡ Some node
  pub state : node.state ≡ reached g (last_state g h) x node.state.position.output

nowhere : NodeData
nowhere = record { state = record { hidden = []; position = record { input = []; output = [] } }; asm = 0; goal = 0; rank = 0; layer = 0; reply = []; next = [] }

pub no_node : ℕ → NodeData
no_node p = nowhere

pub nothing_walked : (g : GameData) (nodes : List NodeData) → Walk g nodes [] no_node
nothing_walked g nodes = record { number = λ p. 0; in_table = λ p inner. absurd (omega arith); states = λ p inner. absurd (omega arith); place = λ p. 0; moves = λ p inner. absurd (omega arith) }

module _ (g : GameData) (nodes : List NodeData) (h : Run) (node : ℕ → NodeData) (walk : Walk g nodes h node) (x : Assignment) (row : List ℕ) (of_last : (p : ℕ) → suc p ≡ length h → row ≡ (node p).next) (next : Next g nodes h row x) where
  abbrev p_last : Position
  p_last = record { input = x; output = next.node.state.position.output }

  pub longer_node : ℕ → NodeData
  longer_node = with_last node (length h) next.node

  pub longer_node-before : (q : ℕ) → q < length h → longer_node q ≡ node q
  unfolding longer_node
  longer_node-before q less = with_last-before node (length h) next.node q less

  pub longer_node-here : longer_node (length h) ≡ next.node
  unfolding longer_node
  longer_node-here = with_last-here node (length h) next.node

  longer_number : ℕ → ℕ
  longer_number = with_last walk.number (length h) next.number

  longer_place : ℕ → ℕ
  longer_place q = with_last walk.place (length h - 1) next.place q

  earlier_or_last : (q : ℕ) → q < length (after h x next.node.state.position.output) → (q < length h) ⊎ (q ≡ length h)
  earlier_or_last q inner = let long = length-after h p_last in by (omega (arith, inner, long))
    where
      by : q < suc (length h) → (q < length h) ⊎ (q ≡ length h)
      by inner = grind arith

  in_table : (q : ℕ) → (q < length h) ⊎ (q ≡ length h) → slice_get nodes (longer_number q) ≡ Some (longer_node q)
  unfolding longer_node longer_number
  in_table q (inl less) =
      ap (slice_get nodes) (with_last-before walk.number (length h) next.number q less)
      ∙ (walk.in_table q less
      ∙ ap (λ (v : NodeData). Some v) (sym (with_last-before node (length h) next.node q less)))
  in_table q (inr same) =
      ap (λ (q : ℕ). slice_get nodes (with_last walk.number (length h) next.number q)) same
      ∙ (ap (slice_get nodes) (with_last-here walk.number (length h) next.number)
      ∙ (next.in_table
      ∙ ap (λ (v : NodeData). Some v) (sym (ap (with_last node (length h) next.node) same ∙ with_last-here node (length h) next.node))))

  state_there : (q : ℕ) → (q < length h) ⊎ (q ≡ length h) → (longer_node q).state ≡ state_at g (after h x next.node.state.position.output) q
  unfolding longer_node
  state_there q (inl less) =
      ap (λ (v : NodeData). v.state) (with_last-before node (length h) next.node q less)
      ∙ (walk.states q less
      ∙ sym (state_at-earlier g h p_last q less))
  state_there q (inr same) =
      ap (λ (q : ℕ). (with_last node (length h) next.node q).state) same
      ∙ (ap (λ (v : NodeData). v.state) (with_last-here node (length h) next.node)
      ∙ (next.state
      ∙ (sym (state_at-last g h p_last)
      ∙ ap (state_at g (after h x next.node.state.position.output)) (sym same))))

  move_there : (q : ℕ) → (suc q < length h) ⊎ (suc q ≡ length h) → slice_get (longer_node q).next (longer_place q) ≡ Some (longer_number (suc q))
  unfolding longer_node longer_number longer_place
  move_there q (inl less) =
      ap (λ (v : NodeData). slice_get v.next (with_last walk.place (length h - 1) next.place q)) (with_last-before node (length h) next.node q (omega (arith, less)))
      ∙ (ap (slice_get (node q).next) (with_last-before walk.place (length h - 1) next.place q (omega (arith, less)))
      ∙ (walk.moves q less
      ∙ ap (λ (n : ℕ). Some n) (sym (with_last-before walk.number (length h) next.number (suc q) less))))
  move_there q (inr same) =
      let at : q ≡ length h - 1 = omega (arith, same) in
      ap (λ (v : NodeData). slice_get v.next (with_last walk.place (length h - 1) next.place q)) (with_last-before node (length h) next.node q (omega (arith, same)))
      ∙ (ap (λ (n : ℕ). slice_get (node q).next (with_last walk.place (length h - 1) next.place n)) at
      ∙ (ap (slice_get (node q).next) (with_last-here walk.place (length h - 1) next.place)
      ∙ (ap (λ (ts : List ℕ). slice_get ts next.place) (sym (of_last q same))
      ∙ (next.in_row
      ∙ ap (λ (n : ℕ). Some n) (sym (ap (with_last walk.number (length h) next.number) same ∙ with_last-here walk.number (length h) next.number))))))

  pub longer : Walk g nodes (after h x next.node.state.position.output) longer_node
  longer =
      record {
        number = longer_number;
        in_table = λ q inner. in_table q (earlier_or_last q inner);
        states = λ q inner. state_there q (earlier_or_last q inner);
        place = longer_place;
        moves = λ q inner. move_there q (earlier_or_last (suc q) inner);
      }
