-- What is seen of a move: its lines are safe to compute, and have the values of the game's steps.
use Rattle.std.proofs.Common.{◌≡◌, ℕ, zero, suc, Bool, true, false, not, List, [], ◌∷◌, map, get_or, Option, Some, None, length, refl, sym, ap, subst, IsTrue}
use Rattle.std.specs.List.{list_all}
use Rattle.std.proofs.lemmas.Bool.{and_parts}
use Rattle.std.specs.Option.{IfSome}
use Rattle.spec_model.specs.declared.value.Value.{Value}
use Rattle.spec_model.specs.declared.expr.Expr.{Expr}
use Rattle.spec_model.specs.Values.{Assignment, truth_of}
use Rattle.spec_model.specs.Syntax.{Formula}
use Rattle.spec_model.specs.Views.{formula}
use Rattle.spec_model.specs.Rules.{Position}
use Rattle.spec_model.specs.Moves.{has_next, value_among}
use Rattle.spec_model.specs.Meaning.{holds_at}
use Rattle.spec_model.specs.Typing.{Scope, kind_of, is_truth}
use Rattle.spec_model.specs.Games.{GameData, State, listed, first_hidden, next_hidden, present_reading, readout_of, step_reading}
use Rattle.spec_model.specs.Steps.{is_state, is_input, is_output, reached, waits_for_output}
use Rattle.spec_model.proofs.Closed.{closed}
use Rattle.spec_model.specs.WellMade.{WellMade, is_stepwise, is_step_formula, is_state_formula, is_initial_assumption, is_safety_assumption, awaits_output, scope_of}
use Rattle.game_values.specs.Safety.{IsSafe}
use Rattle.game_values.proofs.Safe.{IsTyped, step_safe}
use Rattle.game_values.proofs.Typed.{all_weaker, typed_among}
use Rattle.game_play.specs.declared.sight.Sight.{Sight}
use Rattle.game_play.specs.declared.made.Made.{Made}
use Rattle.game_play.specs.declared.judging.InputJudge.{InputJudge}
use Rattle.game_play.specs.declared.judging.Move.{Move}
use Rattle.game_play.specs.Sights.{as_values, IsSplit, seen_reading, reading_in}
use Rattle.game_play.specs.Judged.{made_reading, AreSafeIn, IsJudgeOf}
use Rattle.game_play.proofs.Readings.{Share, value_now}
use Rattle.game_play.proofs.Sights.{input_fits, output_fits}

-- ---- safe lines

module _ (sc : Scope) (m : Move) (made : IsTyped sc (made_reading m.made)) (before : IfSome m.before (λ s. IsTyped sc (reading_in s))) where
  before_safe : (e : Formula) → is_step_formula sc e ≡ true → (o : Option Sight) → IfSome o (λ s. IsTyped sc (reading_in s)) → IfSome o (λ s. IsSafe (reading_in s) e 0)
  before_safe e step None h = h
  before_safe e step (Some s) h = step_safe sc (reading_in s) h e step

  pub lines_safe : (ls : List (ℕ × Expr)) → list_all (λ (l : ℕ × Formula). is_step_formula sc l.1) (map (λ (l : ℕ × Expr). (l.0, formula l.1)) ls) ≡ true → AreSafeIn m ls
  lines_safe [] steps = tt
  lines_safe (l ∷ ls) steps =
      let parts = and_parts (is_step_formula sc (formula l.1)) _ steps in
      ((step_safe sc (made_reading m.made) made (formula l.1) parts.0, before_safe (formula l.1) parts.0 m.before before), lines_safe ls parts.1)

module _ (g : GameData) (made : WellMade g) where
  pub initial_steps : list_all (λ (l : ℕ × Formula). is_step_formula (scope_of g) l.1) g.initial_asm ≡ true
  initial_steps =
      all_weaker (λ (l : ℕ × Formula). is_initial_assumption g l.1) (λ (l : ℕ × Formula). is_step_formula (scope_of g) l.1)
      (λ l h. (and_parts (is_step_formula (scope_of g) l.1) (not (has_next l.1)) (and_parts (is_state_formula (scope_of g) l.1) (not (waits_for_output g l.1)) h).0).0) g.initial_asm made.initial_asm

  pub safety_steps : list_all (λ (l : ℕ × Formula). is_step_formula (scope_of g) l.1) g.safe_asm ≡ true
  safety_steps =
      all_weaker (λ (l : ℕ × Formula). is_safety_assumption g l.1) (λ (l : ℕ × Formula). is_step_formula (scope_of g) l.1)
      (λ l h. (and_parts (is_step_formula (scope_of g) l.1) (not (awaits_output g.variables false l.1)) h).0) g.safe_asm made.safe_asm

-- ---- a state, and the moves to the next

-- what is present at a state is the step from it to itself
pub present_state : (g : GameData) (s : State) → present_reading g.variables s.position (readout_of g s).entries ≡ step_reading g s s
present_state g s = λ i. record { variable = λ k t. variable k t i; entry = λ h n t. entry h n t i }
  where
    variable : (k t : ℕ) → value_among g.variables s.position k ≡ (step_reading g s s).variable k t
    variable k zero = refl
    variable k (suc t) = refl

    entry : (h n t : ℕ) → (present_reading g.variables s.position (readout_of g s).entries).entry h n t ≡ (step_reading g s s).entry h n t
    entry h n zero = refl
    entry h n (suc t) = refl

-- the variables have values of their domains there
pub made_typed : (g : GameData) (s : State) → is_state g s ≡ true → (m : Made) → made_reading m ≡ step_reading g s s → IsTyped (scope_of g) (made_reading m)
made_typed g s inside m is = subst (IsTyped (scope_of g)) (sym is) typed
  where
    typed : IsTyped (scope_of g) (step_reading g s s)
    typed k zero = typed_among g.variables s.position.input s.position.output (input_fits g s inside (listed s) refl (length g.hidden) refl) (output_fits g s inside (listed s) refl (length g.hidden) refl) k
    typed k (suc t) = typed_among g.variables s.position.input s.position.output (input_fits g s inside (listed s) refl (length g.hidden) refl) (output_fits g s inside (listed s) refl (length g.hidden) refl) k

module _ (g : GameData) (s : State) (entries : List (List Bool)) (read : entries ≡ (readout_of g s).entries) where
  -- a state and the next: entries stand at the state alone
  pub seen_step : (s' : State) (p q : Position) → p ≡ s.position → q ≡ s'.position → (e : Formula) → is_step_formula (scope_of g) e ≡ true →
      holds_at (seen_reading g.variables p q entries) e 0 ≡ holds_at (step_reading g s s') e 0
  seen_step s' p q here next e step =
      ap truth_of (value_now g.variables [] true true true _ _ 0 0 share e ((and_parts (is_truth (kind_of (scope_of g) e)) (is_stepwise false e) step).1, refl, refl, refl))
    where
      share : Share g.variables [] true true true (seen_reading g.variables p q entries) (step_reading g s s') 0 0
      share =
          record {
            variable = λ k suits. ap (λ r. value_among g.variables r k) here;
            entry = λ h n suits. ap (λ es. get_or (get_or es h []) n false) read;
            next_variable = λ there k suits. ap (λ r. value_among g.variables r k) next;
          }

-- ---- the state that an input leads to, with the output that is looked at

pub some_output : (g : GameData) (j : InputJudge) (y : Assignment) → y ≡ j.output.items → IsJudgeOf g j → IsTrue (is_output g y)
some_output g j y is judge = subst (λ (o : Assignment). IsTrue (is_output g o)) (sym is) judge.output

module _ (g : GameData) (made : WellMade g) (numbers x y : List Value) (input : IsTrue (is_input g x)) (output : IsTrue (is_output g y)) where
  pub first_state : numbers ≡ as_values (first_hidden g) → (s : State) × IsTrue (is_state g s) × IsSplit s numbers x y
  first_state same = (reached g None x y, (closed g made).first x y input output, record { hidden = same; input = refl; output = refl })

  pub later_state : (s : State) → IsTrue (is_state g s) → numbers ≡ as_values (next_hidden g s) → (s : State) × IsTrue (is_state g s) × IsSplit s numbers x y
  later_state s inside same = (reached g (Some s) x y, (closed g made).later s x y inside input output, record { hidden = same; input = refl; output = refl })
