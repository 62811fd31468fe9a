-- Functions of formulas over a state tell where these hold.
use Rattle.std.proofs.Common.{◌≡◌, ℕ, ◌+◌, ◌<◌, Bool, true, false, not, List, [], ◌∷◌, ◌++◌, length, drop, take, map, get_or, sym, ◌∙◌, ap}
use Rattle.std.specs.List.{list_all}
use Rattle.std.proofs.lemmas.Bool.{and_parts, false≢true}
use Rattle.std.proofs.lemmas.List.{map-append}
use Rattle.spec_model.specs.declared.game.Goal.{Goal}
use Rattle.spec_model.specs.GameViews.{goal_data}
use Rattle.spec_model.specs.Syntax.{Formula}
use Rattle.spec_model.specs.Moves.{has_next}
use Rattle.spec_model.specs.Games.{GameData, GoalData}
use Rattle.spec_model.specs.WellMade.{WellMade, scope_of, is_state_formula, is_step_formula}
use Rattle.bit_compile.specs.Compiled.{compiled}
use Rattle.bit_compile.proofs.CompiledFormulas.{formula_compiled}
use Rattle.bit_compile.proofs.CyclesLemmas.{take_next}
use Rattle.bit_compile.proofs.Folding.{drop_next}
use Rattle.bdd_sets.specs.Goals.{TellsFormula, TellGoals}

module _ (g : GameData) (made : WellMade g) where
  pub formula_tells : (e : Formula) → is_state_formula (scope_of g) e ≡ true → TellsFormula g e (compiled g e)
  formula_tells e state s b here has =
      let parts = and_parts (is_step_formula (scope_of g) e) (not (has_next e)) state in
      (formula_compiled g made e parts.0).meaning s s b here here has (λ k known awaited. absurd (never (has_next e) awaited.0 parts.1))
    where
      never : (a : Bool) → a ≡ true → not a ≡ true → ⊥
      never true is other = false≢true other
      never false is other = false≢true is

  pub goals_tell : (goals : List GoalData) → list_all (λ goal. is_state_formula (scope_of g) goal.holds) goals ≡ true → TellGoals g goals (map (λ goal. compiled g goal.holds) goals)
  goals_tell [] all = tt
  goals_tell (goal ∷ goals) all =
      let parts = and_parts (is_state_formula (scope_of g) goal.holds) _ all in
      (formula_tells goal.holds parts.0, goals_tell goals parts.1)

  -- one goal more
  pub goal_next : (goals : List Goal) (i : ℕ) (goal : Goal) → i < length goals → goal ≡ get_or goals i goal → list_all (λ goal. is_state_formula (scope_of g) goal.holds) (map goal_data (drop i goals)) ≡ true →
      (is_state_formula (scope_of g) (goal_data goal).holds ≡ true) × (list_all (λ goal. is_state_formula (scope_of g) goal.holds) (map goal_data (drop (i + 1) goals)) ≡ true)
  goal_next goals i goal below is all = and_parts _ _ (ap (λ (rest : List Goal). list_all (λ goal. is_state_formula (scope_of g) goal.holds) (map goal_data rest)) (sym (drop_next goals i goal below is)) ∙ all)

pub goals_longer : {X : Type 0} (f : GoalData → X) (goals : List Goal) (i : ℕ) (goal : Goal) → i < length goals → goal ≡ get_or goals i goal → map f (map goal_data (take i goals)) ++ f (goal_data goal) ∷ [] ≡ map f (map goal_data (take (i + 1) goals))
goals_longer f goals i goal below is =
    sym (ap (λ (so_far : List Goal). map f (map goal_data so_far)) (take_next goals i goal below is)
    ∙ (ap (map f) (map-append goal_data (take i goals) (goal ∷ [])) ∙ map-append f (map goal_data (take i goals)) (goal_data goal ∷ [])))
