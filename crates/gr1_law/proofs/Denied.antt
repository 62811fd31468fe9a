-- Where no two goals have one label, the goal with a label is the one that has its number.
use Rattle.std.proofs.Common.{◌≡◌, ℕ, zero, suc, ◌<◌, Bool, true, false, List, [], ◌∷◌, Some, cond, find, length, map, get_or, slice_index_or, refl, sym, ◌∙◌, ap, arith}
use Rattle.std.proofs.lemmas.Bool.{and_from, false≢true}
use Rattle.std.proofs.lemmas.List.{length-map}
use borrow.Author.Tests.{eq-eqb}
use Rattle.spec_model.specs.declared.game.Label.{Label}
use Rattle.spec_model.specs.Rules.{Run, RecurringGoal}
use Rattle.spec_model.specs.Unrealizable.{same_label, goal_of}
use Rattle.spec_model.specs.Games.{GameData, GoalData, State}
use Rattle.spec_model.specs.GameRuns.{state_at, game_reading, goals_in}
use Rattle.spec_model.specs.Meaning.{holds_at}
use Rattle.spec_model.specs.Steps.{is_state}
use Rattle.spec_model.specs.Sets.{StateSet, all_states, holding}
use Rattle.spec_model.specs.WellMade.{WellMade}
use Rattle.gr1_law.specs.Layers.{or_all_states, goal_sets, goal_set}
use Rattle.gr1_law.specs.Counter.{label_at}
use Rattle.gr1_law.specs.CounterLaws.{LabelsDiffer}
use Rattle.gr1_law.proofs.Present.{goal_at, GoalAt, numbered_at}

-- the first element that passes a test
find-first : {X : Type 0} (p : X → Bool) (xs : List X) (k : ℕ) (d : X) → k < length xs → ((i : ℕ) → i < k → p (slice_index_or xs i d) ≡ false) → p (slice_index_or xs k d) ≡ true →
    find p xs ≡ Some (slice_index_or xs k d)
find-first p [] k d below none here = absurd (omega arith)
find-first p (x ∷ xs) zero d below none here = ap (λ (b : Bool). cond b (Some x) (find p xs)) here
find-first p (x ∷ xs) (suc k) d below none here =
    ap (λ (b : Bool). cond b (Some x) (find p xs)) (none 0 (omega arith)) ∙ find-first p xs k d (omega arith) (λ i less. none (suc i) (omega arith)) here

same_label-refl : (l : Label) → same_label l l ≡ true
same_label-refl l = and_from _ _ (eq-eqb l.line l.line refl) (eq-eqb l.part l.part refl)

-- a goal that fails at a state is one of the game's
pub goal_there : (g : GameData) (j : ℕ) (s : State) → j < length (goal_sets g) → is_state g s ≡ true → goal_set g j s ≡ false → j < length g.goals
goal_there g j s below here fails = at g.goals refl
  where
    at : (gs : List GoalData) → g.goals ≡ gs → j < length g.goals
    at [] is =
        let alone : goal_sets g ≡ all_states g ∷ [] = ap (λ (gs : List GoalData). or_all_states g (map (λ (goal : GoalData). holding g goal.holds) gs)) is in
        let first : j ≡ 0 = omega (arith, below, ap (λ (sets : List StateSet). length sets) alone) in
        let none : goal_set g j s ≡ true = ap (λ (i : ℕ). goal_set g i s) first ∙ (ap (λ (sets : List StateSet). get_or sets 0 (λ s. false) s) alone ∙ here) in
        absurd (false≢true (sym fails ∙ none))
    at (a ∷ more) is =
        let sets : length (goal_sets g) ≡ length (a ∷ more) =
        ap (λ (gs : List GoalData). length (or_all_states g (map (λ (goal : GoalData). holding g goal.holds) gs))) is ∙ length-map (a ∷ more) (λ (goal : GoalData). holding g goal.holds)
        in
        let same : length g.goals ≡ length (a ∷ more) = ap (λ (gs : List GoalData). length gs) is in
        omega (arith, below, sets, same)

module _ (g : GameData) (made : WellMade g) (differ : LabelsDiffer g) (j : ℕ) (below : j < length g.goals) where
  at : GoalAt g g.goals j
  at = goal_at g g.goals made.goals j below

  -- the goal numbered j, as the game's players see it
  pub labelled : RecurringGoal
  labelled = record { label = at.goal.label; holds = λ h t. holds_at (game_reading g h) at.goal.holds t }

  label-slice : (i : ℕ) → i < length g.goals → (slice_index_or (goals_in g g.goals) i labelled).label ≡ label_at g i
  label-slice i inner = let there = goal_at g g.goals made.goals i inner in ap (λ (goal : RecurringGoal). goal.label) (there.among labelled) ∙ sym (there.label (record { line = 0; part = 0 }))

  pub labelled-found : goal_of (goals_in g g.goals) (label_at g j) ≡ Some labelled
  unfolding labelled
  labelled-found =
      let counted : length (goals_in g g.goals) ≡ length g.goals = length-map g.goals _ in
      find-first (λ goal. same_label goal.label (label_at g j)) (goals_in g g.goals) j labelled (omega (arith, below, counted))
      (λ i less. ap (λ (l : Label). same_label l (label_at g j)) (label-slice i (omega (arith, below, less))) ∙ differ i j less below)
      (ap (λ (l : Label). same_label l (label_at g j)) (label-slice j below) ∙ same_label-refl (label_at g j))
      ∙ ap (λ (goal : RecurringGoal). Some goal) (at.among labelled)

  pub labelled-holds : (h : Run) (t : ℕ) → is_state g (state_at g h t) ≡ true → labelled.holds h t ≡ goal_set g j (state_at g h t)
  unfolding labelled
  labelled-holds = (numbered_at g g.goals j below at).holds
