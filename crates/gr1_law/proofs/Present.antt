-- A goal of a well-made game holds at a position of a run exactly where the position's state is in the goal's set.
use Rattle.std.proofs.Common.{◌≡◌, ℕ, zero, suc, ◌<◌, Bool, true, false, not, ◌&&◌, ◌||◌, List, [], ◌∷◌, length, map, get_or, slice_index_or, Contains, refl, sym, ◌∙◌, ap, subst, arith}
use Rattle.std.proofs.lemmas.List.{length-map}
use Rattle.std.specs.List.{list_all, list_any}
use Rattle.std.proofs.lemmas.Bool.{and_parts}
use Rattle.spec_model.specs.declared.value.Value.TheVariants as value
use Rattle.spec_model.specs.declared.game.Label.{Label}
use Rattle.spec_model.specs.Values.{truth_of}
use Rattle.spec_model.specs.Syntax.{Formula, Constant, Variable, NextOf, Negation, Conjunction, Disjunction, Implication, Equivalence, Comparison, Sum, Difference, Product, Remainder, PastOf, Entry, Formulas}
use Rattle.spec_model.specs.Meaning.{Reading, value_at, truths_at, holds_at}
use Rattle.spec_model.specs.Moves.{has_next, some_has_next}
use Rattle.spec_model.specs.Rules.{Run, RecurringGoal}
use Rattle.spec_model.specs.Games.{GameData, GoalData, step_reading}
use Rattle.spec_model.specs.GameRuns.{state_at, game_reading, goals_in}
use Rattle.spec_model.specs.Steps.{is_state}
use Rattle.spec_model.specs.Sets.{StateSet, no_states, holding}
use Rattle.spec_model.specs.WellMade.{is_stepwise, are_stepwise, is_state_formula, is_step_formula, scope_of}
use Rattle.gr1_law.specs.Layers.{or_all_states}

-- ---- a formula that reads one position has one value in two readings that agree there

neither : (a b : Bool) → (a || b) ≡ false → (a ≡ false) × (b ≡ false)
neither true b e = absurd (cc)
neither false b e = (refl, e)

not_true : (b : Bool) → not b ≡ true → b ≡ false
not_true true e = absurd (cc)
not_true false e = refl

-- each of several operands is at one place what it is at another
abbrev SameAt : ℕ → ℕ → List (ℕ → Bool) → List (ℕ → Bool) → Type 0
SameAt t t' [] [] = Unit {0}
SameAt t t' (f ∷ fs) (g ∷ gs) = (f t ≡ g t') × SameAt t t' fs gs
SameAt t t' _ _ = ⊥

all_same : (t t' : ℕ) (fs gs : List (ℕ → Bool)) → SameAt t t' fs gs → list_all (λ a. a t) fs ≡ list_all (λ a. a t') gs
all_same t t' [] [] h = refl
all_same t t' [] (g ∷ gs) h = absurd h
all_same t t' (f ∷ fs) [] h = absurd h
all_same t t' (f ∷ fs) (g ∷ gs) h = let e = h.0 in let rest = all_same t t' fs gs h.1 in cc

some_same : (t t' : ℕ) (fs gs : List (ℕ → Bool)) → SameAt t t' fs gs → list_any (λ a. a t) fs ≡ list_any (λ a. a t') gs
some_same t t' [] [] h = refl
some_same t t' [] (g ∷ gs) h = absurd h
some_same t t' (f ∷ fs) [] h = absurd h
some_same t t' (f ∷ fs) (g ∷ gs) h = let e = h.0 in let rest = some_same t t' fs gs h.1 in cc

module _ (r r' : Reading) (t t' : ℕ) (variable : (k : ℕ) → r.variable k t ≡ r'.variable k t') (entry : (h n : ℕ) → r.entry h n t ≡ r'.entry h n t') where
  mutual
    pub value_present : (e : Formula) → is_stepwise false e ≡ true → has_next e ≡ false → value_at r e t ≡ value_at r' e t'
    value_present (Constant v) step here = refl
    value_present (Variable k) step here = variable k
    value_present (NextOf e) step here = absurd (cc)
    value_present (Negation e) step here = let h = value_present e step here in cc
    value_present (Conjunction es) step here = ap (λ b. value.Bool b) (all_same t t' _ _ (truths_present es step here))
    value_present (Disjunction es) step here = ap (λ b. value.Bool b) (some_same t t' _ _ (truths_present es step here))
    value_present (Implication a b) step here = let s = and_parts _ _ step in let p = neither _ _ here in let h = value_present a s.0 p.0 in let i = value_present b s.1 p.1 in cc
    value_present (Equivalence a b) step here = let s = and_parts _ _ step in let p = neither _ _ here in let h = value_present a s.0 p.0 in let i = value_present b s.1 p.1 in cc
    value_present (Comparison c a b) step here = let s = and_parts _ _ step in let p = neither _ _ here in let h = value_present a s.0 p.0 in let i = value_present b s.1 p.1 in cc
    value_present (Sum a b) step here = let s = and_parts _ _ step in let p = neither _ _ here in let h = value_present a s.0 p.0 in let i = value_present b s.1 p.1 in cc
    value_present (Difference a b) step here = let s = and_parts _ _ step in let p = neither _ _ here in let h = value_present a s.0 p.0 in let i = value_present b s.1 p.1 in cc
    value_present (Product a b) step here = let s = and_parts _ _ step in let p = neither _ _ here in let h = value_present a s.0 p.0 in let i = value_present b s.1 p.1 in cc
    value_present (Remainder a n) step here = let h = value_present a step here in cc
    value_present (PastOf op es) step here = absurd (cc)
    value_present (Entry k n) step here = ap (λ b. value.Bool b) (entry k n)

    truths_present : (es : Formulas) → are_stepwise false es ≡ true → some_has_next es ≡ false → SameAt t t' (truths_at r es) (truths_at r' es)
    truths_present Formulas.none step here = tt
    truths_present (Formulas.one_more e es) step here =
        let s = and_parts _ _ step in
        let p = neither _ _ here in
        (ap truth_of (value_present e s.0 p.0), truths_present es s.1 p.1)

-- ---- goals

module _ (g : GameData) where
  abbrev set_of : GoalData → StateSet
  set_of goal = holding g goal.holds

  abbrev recurring : GoalData → RecurringGoal
  recurring goal = record { label = goal.label; holds = λ h t. holds_at (game_reading g h) goal.holds t }

  abbrev is_formed : GoalData → Bool
  is_formed goal = is_state_formula (scope_of g) goal.holds

  -- the goal holds on a run where its set has the state
  pub holds_where : (goal : GoalData) → is_state_formula (scope_of g) goal.holds ≡ true → (h : Run) (t : ℕ) → is_state g (state_at g h t) ≡ true →
      holds_at (game_reading g h) goal.holds t ≡ holding g goal.holds (state_at g h t)
  holds_where goal formed h t here =
      let parts = and_parts (is_step_formula (scope_of g) goal.holds) (not (has_next goal.holds)) formed in
      let step = (and_parts _ (is_stepwise false goal.holds) parts.0).1 in
      ap truth_of (value_present (game_reading g h) (step_reading g (state_at g h t) (state_at g h t)) t 0 (λ k. refl) (λ table n. refl) goal.holds step (not_true (has_next goal.holds) parts.1))
      ∙ sym (ap (λ b. b && holds_at (step_reading g (state_at g h t) (state_at g h t)) goal.holds 0) here)

  -- the goal with a number, among the sets and among the recurring goals
  pub record GoalAt (gs : List GoalData) (k : ℕ) : Type 0 where
    pub goal : GoalData
    pub set : get_or (map (λ (goal : GoalData). holding g goal.holds) gs) k no_states ≡ holding g goal.holds
    pub among : (d : RecurringGoal) → slice_index_or (goals_in g gs) k d ≡ record { label = goal.label; holds = λ h t. holds_at (game_reading g h) goal.holds t }
    pub formed : is_state_formula (scope_of g) goal.holds ≡ true
    pub label : (none : Label) → get_or (map (λ (goal : GoalData). goal.label) gs) k none ≡ goal.label

  pub goal_at : (gs : List GoalData) → list_all (λ (goal : GoalData). is_state_formula (scope_of g) goal.holds) gs ≡ true → (k : ℕ) → k < length gs → GoalAt gs k
  goal_at [] formed k below = absurd (omega arith)
  goal_at (a ∷ gs) formed zero below = record { goal = a; set = refl; among = λ d. refl; formed = (and_parts (is_state_formula (scope_of g) a.holds) _ formed).0; label = λ none. refl }
  goal_at (a ∷ gs) formed (suc k) below =
      let rest = goal_at gs (and_parts (is_state_formula (scope_of g) a.holds) _ formed).1 k (omega arith) in
      record { goal = rest.goal; set = rest.set; among = rest.among; formed = rest.formed; label = rest.label }

  sets_same : (gs : List GoalData) (k : ℕ) → k < length gs → or_all_states g (map (λ (goal : GoalData). holding g goal.holds) gs) ≡ map (λ (goal : GoalData). holding g goal.holds) gs
  sets_same [] k below = absurd (omega arith)
  sets_same (a ∷ gs) k below = refl

  -- a recurring goal, and the number of its set
  pub record Numbered (gs : List GoalData) (goal : RecurringGoal) (k : ℕ) : Type 0 where
    pub there : k < length (or_all_states g (map (λ (goal : GoalData). holding g goal.holds) gs))
    pub holds : (h : Run) (t : ℕ) → is_state g (state_at g h t) ≡ true → goal.holds h t ≡ get_or (or_all_states g (map (λ (goal : GoalData). holding g goal.holds) gs)) k no_states (state_at g h t)

  pub numbered_at : (gs : List GoalData) (k : ℕ) → k < length gs → (at : GoalAt gs k) → Numbered gs (record { label = at.goal.label; holds = λ h t. holds_at (game_reading g h) at.goal.holds t }) k
  numbered_at gs k below at =
      record {
        there = subst (λ (sets : List StateSet). k < length sets) (sym (sets_same gs k below)) (omega (arith, length-map gs (λ (goal : GoalData). holding g goal.holds)));
        holds = λ h t here.
            holds_where at.goal at.formed h t here
            ∙ (ap (λ (set : StateSet). set (state_at g h t)) (sym at.set)
            ∙ ap (λ (sets : List StateSet). get_or sets k no_states (state_at g h t)) (sym (sets_same gs k below)));
      }

  -- each recurring goal has its set
  pub numbered : (gs : List GoalData) → list_all (λ (goal : GoalData). is_state_formula (scope_of g) goal.holds) gs ≡ true → (goal : RecurringGoal) → Contains (goals_in g gs) goal → (k : ℕ) × Numbered gs goal k
  numbered gs formed goal c =
      let below : c.0 < length gs = omega (arith, c.1, length-map gs recurring) in
      let at = goal_at gs formed c.0 below in
      (c.0, subst (λ (r : RecurringGoal). Numbered gs r c.0) (sym (at.among goal) ∙ c.2) (numbered_at gs c.0 below at))

  -- each set is that of a recurring goal
  pub recurring_at : (gs : List GoalData) → list_all (λ (goal : GoalData). is_state_formula (scope_of g) goal.holds) gs ≡ true → (k : ℕ) → k < length gs → (goal : RecurringGoal) × Contains (goals_in g gs) goal × Numbered gs goal k
  recurring_at gs formed k below =
      let at = goal_at gs formed k below in
      (recurring at.goal, (k, omega (arith, length-map gs recurring), at.among (recurring at.goal)), numbered_at gs k below at)
