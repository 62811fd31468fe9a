-- The nodes that come next: once the goal holds the next is aimed at; before, the rank falls, or the play waits.
use Rattle.std.proofs.Common.{◌≡◌, ℕ, suc, ◌-◌, ◌<◌, Bool, true, false, not, ◌&&◌, ◌||◌, ◌==◌, nat_lt, if◌then◌else◌, List, [], ◌∷◌, Option, Some, length, filter, slice_get, refl, sym, ◌∙◌, ap, subst, arith}
use Rattle.std.proofs.lemmas.Bool.{and_parts, and_from, or_left, or_right, eq-eqb, lt-ltb}
use Rattle.std.specs.List.{list_all}
use Rattle.spec_model.specs.Values.{Assignment}
use Rattle.spec_model.specs.Games.{GameData, State, inputs_of}
use Rattle.spec_model.specs.Steps.{Before, is_input, is_state, legal_input, reached}
use Rattle.spec_model.specs.Sets.{StateSet}
use Rattle.spec_model.proofs.AllStates.{Every}
use Rattle.gr1_law.specs.Layers.{LayerSets, IsWinning, AreGreatestRanks, goal_set, goal_sets, assumption_set}
use Rattle.gr1_law.specs.Choice.{Memory, Standing, next_goal}
use Rattle.gr1_law.specs.Trails.{Lowers}
use Rattle.gr1_law.proofs.Choosing.{lowers}
use Rattle.strategy_tables.specs.Tables.{NodeData, passes_if_some, each_target, goal_holds, asm_holds, turned}
use Rattle.strategy_tables.specs.Rules.{moves_on, rule_4}
use Rattle.played_tables.specs.Played.{IsNodeOf, LeadsTo, LeadEach, IsRow}
use Rattle.played_tables.proofs.Rows.{row_inputs}

-- counted from 1, the next goal is the one turned to
turned_next : (g : GameData) (j : ℕ) → suc (next_goal g j) ≡ turned (length (goal_sets g)) (suc j)
turned_next g j = at (suc j == length (goal_sets g))
  where
    at : (b : Bool) → suc (if b then 0 else suc j) ≡ (if b then 1 else suc (suc j))
    at true = refl
    at false = refl

module _ (g : GameData) (v w : NodeData) (m m' : Memory) (s s' : State) (from : IsNodeOf v s m) (to : IsNodeOf w s' m') where
  abbrev turns : Bool
  turns = w.goal == turned (length (goal_sets g)) v.goal

  abbrev waits_or_falls : Bool
  waits_or_falls = (w.goal == v.goal) && (nat_lt w.rank v.rank || ((w.rank == v.rank) && ((w.asm == v.asm) && not (asm_holds g v))))

  goal_is : goal_holds g v ≡ goal_set g m.goal s
  goal_is = let e : v.goal - 1 ≡ m.goal = let same = from.goal in omega (arith, same) in ap (λ (j : ℕ). goal_set g j v.state) e ∙ ap (λ (s : State). goal_set g m.goal s) from.state

  asm_is : asm_holds g v ≡ assumption_set g m.index s
  asm_is = let e : v.asm - 1 ≡ m.index = let same = from.asm in omega (arith, same) in ap (λ (i : ℕ). assumption_set g i v.state) e ∙ ap (λ (s : State). assumption_set g m.index s) from.state

  by_goal : (d : Bool) → goal_set g m.goal s ≡ d → (if d then turns else waits_or_falls) ≡ true → moves_on g v w ≡ true
  by_goal d is holds = ap (λ (d : Bool). if d then turns else waits_or_falls) (goal_is ∙ is) ∙ holds

  same_goal : m'.goal ≡ m.goal → (w.goal == v.goal) ≡ true
  same_goal same = eq-eqb w.goal v.goal (to.goal ∙ (ap suc same ∙ sym from.goal))

  pub moved_on : Lowers g s m m' → moves_on g v w ≡ true
  moved_on (Lowers.met holds next) =
      by_goal true holds (eq-eqb w.goal (turned (length (goal_sets g)) v.goal) (to.goal ∙ (ap suc next ∙ (turned_next g m.goal ∙ ap (turned (length (goal_sets g))) (sym from.goal)))))
  moved_on (Lowers.lower fails same less) =
      let fell : w.rank < v.rank = let a = to.rank in let b = from.rank in omega (arith, a, b, less) in
      by_goal false fails (and_from _ _ (same_goal same) (or_left _ _ (lt-ltb w.rank v.rank fell)))
  moved_on (Lowers.waiting fails same stays kept missed) =
      let rank : (w.rank == v.rank) ≡ true = eq-eqb w.rank v.rank (to.rank ∙ (stays ∙ sym from.rank)) in
      let asm : (w.asm == v.asm) ≡ true = eq-eqb w.asm v.asm (to.asm ∙ (ap suc kept ∙ sym from.asm)) in
      let not_met : not (asm_holds g v) ≡ true = ap not asm_is ∙ (and_parts (is_state g s) (not (assumption_set g m.index s)) missed).1 in
      by_goal false fails (and_from _ _ (same_goal same) (or_right (nat_lt w.rank v.rank) _ (and_from _ _ rank (and_from _ _ asm not_met))))

module _ (g : GameData) (z : StateSet) (l : LayerSets) (w : IsWinning g z l) (ranks : List ℕ) (greatest : AreGreatestRanks g l ranks) (nodes : List NodeData) (v : NodeData) (m : Memory) (is : IsNodeOf v v.state m) (standing : Standing g l v.state m) where
  abbrev passes : ℕ → Bool
  passes n = passes_if_some (moves_on g v) (slice_get nodes n)

  target_passes : (x : Assignment) (n : ℕ) → is_input g x ≡ true → legal_input g (Some v.state) x ≡ true → LeadsTo g l nodes (Some v.state) m x n → passes n ≡ true
  target_passes x n input legal to =
      ap (passes_if_some (moves_on g v)) to.there
      ∙ moved_on g v to.node m to.next v.state (reached g (Some v.state) x to.output) is to.is (lowers g z l w ranks greatest v.state m x to.output to.next standing input legal to.chosen)

  all_pass : (xs : List Assignment) (row : List ℕ) → Every (λ x. (is_input g x ≡ true) × (legal_input g (Some v.state) x ≡ true)) xs → LeadEach g l nodes (Some v.state) m xs row → list_all passes row ≡ true
  all_pass [] [] fit all = refl
  all_pass [] (n ∷ ns) fit all = absurd all
  all_pass (x ∷ xs) [] fit all = absurd all
  all_pass (x ∷ xs) (n ∷ ns) fit all = and_from _ _ (target_passes x n fit.0.0 fit.0.1 all.0) (all_pass xs ns fit.1 all.1)

  pub targets_pass : IsRow g l nodes (Some v.state) m v.next → rule_4 g nodes v ≡ true
  targets_pass row = all_pass (filter (legal_input g (Some v.state)) (inputs_of g)) v.next (row_inputs g (Some v.state)) row
