-- A play that a system's table goes along with: its ranks fall towards the goal aimed at.
use Rattle.std.proofs.Common.{◌≡◌, ℕ, zero, suc, ◌+◌, ◌-◌, ◌<◌, ◌≤◌, max, ◌==◌, ◌⊎◌, inl, inr, Bool, true, false, not, ◌&&◌, ◌||◌, nat_le, nat_lt, if◌then◌else◌, List, [], ◌∷◌, length, slice_index, slice_get, Some, refl, sym, ◌∙◌, ap, subst, arith, IsTrue}
use Rattle.std.proofs.lemmas.Bool.{and_parts, and_from, or_cases, false≢true}
use borrow.Author.Tests.{eqb-true, eq-eqb, leb-true, ltb-true}
use Rattle.spec_model.specs.Rules.{Run}
use Rattle.spec_model.specs.Games.{GameData, State}
use Rattle.spec_model.specs.GameRuns.{state_at}
use Rattle.spec_model.specs.Steps.{is_state}
use Rattle.spec_model.specs.Sets.{rest}
use Rattle.gr1_law.specs.Layers.{goal_sets, goal_set, assumption_sets, assumption_set}
use Rattle.gr1_law.specs.Choice.{Memory, next_goal}
use Rattle.gr1_law.specs.Trails.{Lowers, RankedTrail}
use Rattle.strategy_tables.specs.Tables.{NodeData, SystemTable, goal_holds, asm_holds, turned}
use Rattle.strategy_tables.specs.Rules.{is_numbered, rule_2, moves_on, greatest_rank, greatest_ranks}
use Rattle.strategy_tables.specs.Sound.{HasStates}
use Rattle.strategy_tables.proofs.Finding.{target_at}
use Rattle.strategy_tables.proofs.Numbers.{at_number, length-at_numbers, turned-less}
use Rattle.strategy_tables.proofs.Checked.{SystemRules}
use Rattle.strategy_tables.proofs.Walks.{Walk}

-- what is remembered at a node, goals and assumptions counted from 0
abbrev pub memory_of : NodeData → Memory
memory_of v = record { goal = v.goal - 1; rank = v.rank; index = v.asm - 1 }

-- goal and assumption of a numbered node
pub record Numbered (g : GameData) (v : NodeData) : Type 0 where
  pub goal_some : 1 ≤ v.goal
  pub goal_most : v.goal ≤ length (goal_sets g)
  pub asm_some : 1 ≤ v.asm
  pub asm_most : v.asm ≤ length (assumption_sets g)

pub numbered : (g : GameData) (v : NodeData) → is_numbered g v ≡ true → Numbered g v
numbered g v e =
    let parts = and_parts (nat_le 1 v.goal && nat_le v.goal (length (goal_sets g))) (nat_le 1 v.asm && nat_le v.asm (length (assumption_sets g))) e in
    let goal = and_parts (nat_le 1 v.goal) (nat_le v.goal (length (goal_sets g))) parts.0 in
    let asm = and_parts (nat_le 1 v.asm) (nat_le v.asm (length (assumption_sets g))) parts.1 in
    record {
      goal_some = leb-true 1 v.goal goal.0;
      goal_most = leb-true v.goal (length (goal_sets g)) goal.1;
      asm_some = leb-true 1 v.asm asm.0;
      asm_most = leb-true v.asm (length (assumption_sets g)) asm.1;
    }

rank-greatest : (nodes : List NodeData) (i : ℕ) (v : NodeData) → slice_get nodes i ≡ Some v → v.rank ≤ greatest_rank nodes v.goal
rank-greatest [] i v is = absurd (cc)
rank-greatest (w ∷ nodes) zero v is =
    let same : w ≡ v = cc in
    let here : (if v.goal == v.goal then v.rank else 0) ≡ v.rank = ap (λ (b : Bool). if b then v.rank else 0) (eq-eqb v.goal v.goal refl) in
    subst (λ (w : NodeData). v.rank ≤ max (if w.goal == v.goal then w.rank else 0) (greatest_rank nodes v.goal)) (sym same) (omega (arith, here))
rank-greatest (w ∷ nodes) (suc i) v is = let later = rank-greatest nodes i v is in omega (arith, later)

module _ (g : GameData) (t : SystemTable) (states : HasStates g t.nodes) (rules : SystemRules g t) where
  abbrev ranks : List ℕ
  ranks = greatest_ranks g t.nodes

  module _ (i : ℕ) (v : NodeData) (is : slice_get t.nodes i ≡ Some v) where
    rule_two : (is_numbered g v ≡ true) × (nat_le 1 v.rank ≡ true)
    rule_two = and_parts (is_numbered g v) (nat_le 1 v.rank) (rules.each i v is).numbered

    pub of_node : Numbered g v
    of_node = numbered g v rule_two.0

    rank_some : 1 ≤ v.rank
    rank_some = leb-true 1 v.rank rule_two.1

    rank_most : v.rank ≤ slice_index ranks (v.goal - 1)
    rank_most =
        let e : suc (v.goal - 1) ≡ v.goal = omega (arith, of_node.goal_some) in
        let at = at_number (λ j. greatest_rank t.nodes (suc j)) (length (goal_sets g)) (v.goal - 1) (omega (arith, of_node.goal_some, of_node.goal_most)) in
        let most = rank-greatest t.nodes i v is in
        let same : greatest_rank t.nodes (suc (v.goal - 1)) ≡ greatest_rank t.nodes v.goal = ap (greatest_rank t.nodes) e in
        omega (arith, at, most, same)

    -- a node that comes next lowers what is remembered
    lowers : (place j : ℕ) (w : NodeData) → slice_get v.next place ≡ Some j → slice_get t.nodes j ≡ Some w → Lowers g v.state (memory_of v) (memory_of w)
    lowers place j w in_row in_table = by_goal (goal_set g (v.goal - 1) v.state) refl (target_at t.nodes v (moves_on g v) (rules.each i v is).moves place j w in_row in_table)
      where
        not_true : (b : Bool) → not b ≡ true → b ≡ false
        not_true true e = absurd (false≢true e)
        not_true false e = refl

        by_rank : goal_set g (v.goal - 1) v.state ≡ false → w.goal ≡ v.goal → (w.rank < v.rank) ⊎ (((w.rank == v.rank) && ((w.asm == v.asm) && not (asm_holds g v))) ≡ true) → Lowers g v.state (memory_of v) (memory_of w)
        by_rank fails same (inl less) = Lowers.lower fails (ap (λ (j : ℕ). j - 1) same) less
        by_rank fails same (inr waits) =
            let parts = and_parts (w.rank == v.rank) ((w.asm == v.asm) && not (asm_holds g v)) waits in
            let more = and_parts (w.asm == v.asm) (not (asm_holds g v)) parts.1 in
            Lowers.waiting fails (ap (λ (j : ℕ). j - 1) same) (eqb-true w.rank v.rank parts.0) (ap (λ (j : ℕ). j - 1) (eqb-true w.asm v.asm more.0)) (and_from _ _ (states i v is) more.1)

        by_goal : (b : Bool) → goal_set g (v.goal - 1) v.state ≡ b →
            (if b then w.goal == turned (length (goal_sets g)) v.goal else (w.goal == v.goal) && (nat_lt w.rank v.rank || ((w.rank == v.rank) && ((w.asm == v.asm) && not (asm_holds g v))))) ≡ true →
            Lowers g v.state (memory_of v) (memory_of w)
        by_goal true holds e =
            let next = eqb-true w.goal (turned (length (goal_sets g)) v.goal) e in
            Lowers.met holds (ap (λ (j : ℕ). j - 1) next ∙ turned-less (length (goal_sets g)) v.goal of_node.goal_some)
        by_goal false fails e =
            let parts = and_parts (w.goal == v.goal) _ e in
            by_rank fails (eqb-true w.goal v.goal parts.0)
            (elim (or_cases (nat_lt w.rank v.rank) _ parts.1) [ inl less ↦ inl (ltb-true w.rank v.rank less) | inr waits ↦ inr waits ])

  pub trail : (h : Run) (node : ℕ → NodeData) → Walk g t.nodes h node → RankedTrail g (greatest_ranks g t.nodes) h (λ p. memory_of (node p))
  trail h node walk =
      record {
        counted = length-at_numbers (λ j. greatest_rank t.nodes (suc j)) (length (goal_sets g));
        states = λ p inner. subst (λ (s : State). is_state g s ≡ true) (walk.states p inner) (states (walk.number p) (node p) (walk.in_table p inner));
        goal_in = λ p inner. let of = of_node (walk.number p) (node p) (walk.in_table p inner) in omega (arith, of.goal_some, of.goal_most);
        index_in = λ p inner. let of = of_node (walk.number p) (node p) (walk.in_table p inner) in omega (arith, of.asm_some, of.asm_most);
        rank_some = λ p inner. rank_some (walk.number p) (node p) (walk.in_table p inner);
        rank_most = λ p inner. rank_most (walk.number p) (node p) (walk.in_table p inner);
        moves = λ p inner.
            subst (λ (s : State). Lowers g s (memory_of (node p)) (memory_of (node (suc p)))) (walk.states p (omega (arith, inner)))
            (lowers (walk.number p) (node p) (walk.in_table p (omega (arith, inner))) (walk.place p) (walk.number (suc p)) (node (suc p)) (walk.moves p inner) (walk.in_table (suc p) inner));
      }
