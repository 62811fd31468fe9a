-- The states at which a goal holds, by its diagram.
use Rattle.std.proofs.Common.{◌≡◌, ℕ, zero, suc, ◌<◌, true, ◌&&◌, List, [], ◌∷◌, length, Some, slice_get, slice_index, Option, refl, ◌∙◌, ap, subst, arith, Bool, false}
use Rattle.std.proofs.lemmas.Bool.{and_parts}
use Rattle.spec_model.specs.Diagrams.{Function}
use Rattle.spec_model.specs.Syntax.{Formula}
use Rattle.spec_model.specs.Meaning.{holds_at}
use Rattle.spec_model.specs.Games.{GameData, GoalData, step_reading}
use Rattle.spec_model.specs.Steps.{is_state}
use Rattle.spec_model.specs.Sets.{StateSet, all_states, holding}
use Rattle.game_values.specs.declared.seen.At.TheVariants.{Now}
use Rattle.regions.specs.declared.types.Recur.{Recur}
use Rattle.regions.specs.declared.types.Recur.TheVariants.{Assumption, Guarantee}
use Rattle.regions.specs.Rules.{goals_like, number_of, states_holding}
use Rattle.bdd_store.specs.State.{IsRoot}
use Rattle.bdd_bits.specs.Contents.{Contents, function_at}
use Rattle.bdd_ops.specs.Functions.{joined, join_of}
use Rattle.bdd_sets.specs.declared.moves.NextLevels.{NextLevels}
use Rattle.bdd_sets.specs.StateBits.{Tells}
use Rattle.bdd_sets.specs.Members.{functions_at}
use Rattle.bdd_sets.specs.Goals.{TellsFormula, TellGoals}
use Rattle.bdd_sets.proofs.SetLemmas.{told_at, tells_by}
use Rattle.bdd_sets.proofs.ListLemmas.{times_here}
use Rattle.region_bdd.specs.declared.slots.Slot.{Slot}
use Rattle.region_bdd.specs.declared.own.Own.{Own}
use Rattle.region_bdd.specs.declared.own.Refused.{Refused}
use Rattle.region_bdd.specs.Goals.{goal_roots}
use Rattle.region_bdd.specs.Object.{IsObject}
use Rattle.region_bdd.proofs.ObjectLaws.{own_root}
use Rattle.region_bdd.proofs.SetCalls.{tells_all}

-- a goal with its root
pub record IsGoalAt (g : GameData) (c : Contents) (goals : List GoalData) (roots : List ℕ) (k : ℕ) : Type 0 where
  pub goal : GoalData
  pub there : slice_get goals k ≡ Some goal
  pub rooted : k < length roots
  pub tells : TellsFormula g goal.holds (function_at c (slice_index roots k))

goal_at : (g : GameData) (c : Contents) (goals : List GoalData) (roots : List ℕ) (k : ℕ) → TellGoals g goals (functions_at c roots) → k < length goals → IsGoalAt g c goals roots k
goal_at g c [] roots k tell below = absurd (omega arith)
goal_at g c (goal ∷ goals) [] k tell below = absurd tell
goal_at g c (goal ∷ goals) (r ∷ roots) zero tell below = record { goal = goal; there = refl; rooted = omega arith; tells = tell.0 }
goal_at g c (goal ∷ goals) (r ∷ roots) (suc k) tell below =
    let more = goal_at g c goals roots k tell.1 (omega arith) in
    let rooted = more.rooted in
    record { goal = more.goal; there = more.there; rooted = omega (arith, rooted); tells = more.tells }

tells_holding : (g : GameData) (e : Formula) (f p : Function) → TellsFormula g e f → Tells g Now p (all_states g) → Tells g Now (joined (join_of true) f p) (holding g e)
tells_holding g e f p formula proper =
    tells_by g Now (joined (join_of true) f p) (holding g e) (λ s is. (and_parts (is_state g s) _ is).0)
    (λ s b here has. ap (λ k. k && p b) (formula s b here has) ∙ (ap (λ k. holds_at (step_reading g s s) e 0 && k) (told_at g Now p (all_states g) proper s b here has) ∙ swapped (holds_at (step_reading g s s) e 0) (is_state g s)))
    (λ b is. proper.states.elsewhere b (and_parts (f b) (p b) is).1)
  where
    swapped : (x k : Bool) → (x && k) ≡ (k && x)
    swapped true true = refl
    swapped true false = refl
    swapped false true = refl
    swapped false false = refl

holding_is : (g : GameData) (what : Recur) (goal : GoalData) → slice_get (goals_like g what) (number_of what) ≡ Some goal → holding g goal.holds ≡ states_holding g what
holding_is g what goal there = rw there refl

module _ (g : GameData) (own : Own) (lists : NextLevels) (c : Contents) (slots : List Slot) (refused : Option Refused) (object : IsObject g c own lists slots refused) where
  pub goal_there : (what : Recur) → number_of what < length (goals_like g what) → IsGoalAt g c (goals_like g what) (goal_roots own what) (number_of what)
  goal_there (Assumption k) below = goal_at g c g.assume own.assume.items k object.sound.own_fits.assume below
  goal_there (Guarantee k) below = goal_at g c g.goals own.goals.items k object.sound.own_fits.goals below

  pub goal_root : (what : Recur) → number_of what < length (goals_like g what) → IsRoot c.state (slice_index (goal_roots own what) (number_of what))
  goal_root (Assumption k) below = (let at = goal_there (Assumption k) below in let here = times_here own.assume.items k at.rooted in own_root g own c slots object.sound (slice_index own.assume.items k) (omega (arith, here)))
  goal_root (Guarantee k) below = (let at = goal_there (Guarantee k) below in let here = times_here own.goals.items k at.rooted in own_root g own c slots object.sound (slice_index own.goals.items k) (omega (arith, here)))

  pub tells_goal : (what : Recur) → number_of what < length (goals_like g what) → Tells g Now (joined (join_of true) (function_at c (slice_index (goal_roots own what) (number_of what))) (function_at c own.step.proper)) (states_holding g what)
  tells_goal what below =
      let at = goal_there what below in
      subst (λ (t : StateSet). Tells g Now (joined (join_of true) (function_at c (slice_index (goal_roots own what) (number_of what))) (function_at c own.step.proper)) t) (holding_is g what at.goal at.there)
      (tells_holding g at.goal.holds (function_at c (slice_index (goal_roots own what) (number_of what))) (function_at c own.step.proper) at.tells (tells_all g own lists c slots refused object))
