-- The goals of a well-made game, and the states that a row of one marks.
use Rattle.std.proofs.Common.{◌≡◌, ℕ, zero, suc, ◌<◌, Bool, true, List, [], ◌∷◌, length, map, Some, slice_get, get_or, refl, sym, ◌∙◌, ap, arith}
use Rattle.std.specs.List.{list_all}
use Rattle.std.proofs.lemmas.Bool.{and_parts}
use Rattle.spec_model.specs.declared.game.Goal.{Goal}
use Rattle.spec_model.specs.Syntax.{Formula}
use Rattle.spec_model.specs.GameViews.{goal_data}
use Rattle.spec_model.specs.Meaning.{holds_at}
use Rattle.spec_model.specs.Games.{GameData, GoalData, step_reading}
use Rattle.spec_model.specs.Steps.{states_of}
use Rattle.spec_model.specs.Sets.{holding}
use Rattle.std.proofs.Common.{Result, Ok, Err, IfOk}
use Rattle.regions.specs.declared.types.Recur.{Recur}
use Rattle.regions.specs.Rules.{goals_like, number_of, states_holding}
use Rattle.region_rows.specs.declared.row.Row.{Row}
use Rattle.region_rows.specs.Rows.{Shows}
use Rattle.region_rows.specs.Slots.{marked}
use Rattle.region_rows.proofs.IntoLaws.{marked-map}

pub goal_made : (p : GoalData → Bool) (goals : List Goal) (k : ℕ) (a : Goal) → k < length goals → a ≡ get_or goals k a → list_all p (map goal_data goals) ≡ true → p (goal_data a) ≡ true
goal_made p [] k a h is all = absurd (omega arith)
goal_made p (x ∷ goals) zero a h is all = ap (λ z. p (goal_data z)) is ∙ (and_parts (p (goal_data x)) (list_all p (map goal_data goals)) all).0
goal_made p (x ∷ goals) (suc k) a h is all = goal_made p goals k a (omega arith) is (and_parts (p (goal_data x)) (list_all p (map goal_data goals)) all).1

pub get-goal : (goals : List Goal) (k : ℕ) (a : Goal) → k < length goals → a ≡ get_or goals k a → slice_get (map goal_data goals) k ≡ Some (goal_data a)
get-goal [] k a h is = absurd (omega arith)
get-goal (x ∷ goals) zero a h is = ap (λ z. Some (goal_data z)) (sym is)
get-goal (x ∷ goals) (suc k) a h is = get-goal goals k a (omega arith) is

pub goal_row_is : (g : GameData) (row : Row) (e : Formula) → Shows row (map (λ s. holds_at (step_reading g s s) e 0) (states_of g)) → marked g row ≡ holding g e
goal_row_is g row e bits = λ i s. marked-map g row (λ s. holds_at (step_reading g s s) e 0) bits s i

pub states_holding-is : (g : GameData) (what : Recur) (goals : List Goal) (k : ℕ) (a : Goal) → k < length goals → a ≡ get_or goals k a → goals_like g what ≡ map goal_data goals → number_of what ≡ k → states_holding g what ≡ holding g (goal_data a).holds
states_holding-is g what goals k a h is e n =
    let at : slice_get (goals_like g what) (number_of what) ≡ Some (goal_data a) = ap (λ l. slice_get l (number_of what)) e ∙ (ap (slice_get (map goal_data goals)) n ∙ get-goal goals k a h is) in
    rw at refl

pub goal_row_holds : (g : GameData) (what : Recur) (goals : List Goal) (k : ℕ) (a : Goal) → k < length goals → a ≡ get_or goals k a → goals_like g what ≡ map goal_data goals → number_of what ≡ k → {E : Type 0} (r : Result Row E) →
    IfOk r (λ row. Shows row (map (λ s. holds_at (step_reading g s s) (goal_data a).holds 0) (states_of g))) → IfOk r (λ row. marked g row ≡ states_holding g what)
goal_row_holds g what goals k a h is e n (Ok row) bits = goal_row_is g row (goal_data a).holds bits ∙ sym (states_holding-is g what goals k a h is e n)
goal_row_holds g what goals k a h is e n (Err x) bits = tt
