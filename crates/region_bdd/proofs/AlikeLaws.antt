-- Whether an input is legal doesn't depend on the output that comes with it.
use Rattle.std.proofs.Common.{◌≡◌, ◌<◌, Bool, true, false, not, ◌&&◌, ◌||◌, is_some, List, [], ◌∷◌, length, refl, sym, ◌∙◌, ap, arith}
use Rattle.std.proofs.lemmas.Bool.{and_parts, false≢true}
use Rattle.std.specs.List.{list_all, list_any}
use Rattle.spec_model.specs.Syntax.{Formula}
use Rattle.spec_model.specs.Values.{Assignment}
use Rattle.spec_model.specs.Moves.{has_next, is_env}
use Rattle.spec_model.specs.Games.{GameData, outputs_of}
use Rattle.spec_model.specs.Steps.{Before, is_input, is_output, are_hidden_values, reached, line_holds, waits_for_output, assumptions_hold}
use Rattle.spec_model.specs.WellMade.{WellMade, scope_of, is_step_formula, is_state_formula, is_initial_assumption, is_safety_assumption, awaits_output}
use Rattle.spec_model.proofs.AllStates.{Every}
use Rattle.spec_model.proofs.Closed.{closed}
use Rattle.spec_model.proofs.Listed.{outputs_fit}
use Rattle.game_play.proofs.Choices.{some_choice}
use Rattle.game_play.proofs.OutputReads.{not_false}
use Rattle.game_play.proofs.AnyOutput.{same_here, same_late}
use Rattle.bdd_sets.specs.Forcing.{AssumeNothingOfReplies, HasMoves}
use Rattle.bdd_sets.proofs.ForceLemmas.{output_suffices}

lines_same : {X : Type 0} (ok p q : X → Bool) → ((x : X) → ok x ≡ true → p x ≡ q x) → (xs : List X) → list_all ok xs ≡ true → list_all p xs ≡ list_all q xs
lines_same ok p q same [] all = refl
lines_same ok p q same (x ∷ xs) all =
    let parts = and_parts (ok x) (list_all ok xs) all in
    ap (λ c. c && list_all p xs) (same x parts.0) ∙ ap (λ c. q x && c) (lines_same ok p q same xs parts.1)

-- what is the same for each is so for all, where there are some
all_alike : {X : Type 0} (p : X → Bool) (c : Bool) → ((x : X) → p x ≡ c) → (xs : List X) → list_any (λ x. true) xs ≡ true → c ≡ list_all p xs
all_alike p c alike [] some = absurd (false≢true some)
all_alike p c alike (x ∷ []) some = sym (ap (λ d. d && true) (alike x) ∙ at c)
  where
    at : (d : Bool) → (d && true) ≡ d
    at true = refl
    at false = refl
all_alike p c alike (x ∷ y ∷ xs) some = twice c ∙ (ap (λ d. d && c) (sym (alike x)) ∙ ap (λ d. p x && d) (all_alike p c alike (y ∷ xs) refl))
  where
    twice : (d : Bool) → d ≡ (d && d)
    twice true = refl
    twice false = refl

module _ (g : GameData) (made : WellMade g) where
  module _ (b : Before) (x y y' : Assignment) (hidden : are_hidden_values g.hidden (reached g b x y).hidden ≡ true) where
    initial_same : (e : Formula) → is_initial_assumption g e ≡ true → line_holds g false b (reached g b x y) e ≡ line_holds g false b (reached g b x y') e
    initial_same e ok =
        let parts = and_parts (is_state_formula (scope_of g) e) (not (waits_for_output g e)) ok in
        let step = and_parts (is_step_formula (scope_of g) e) (not (has_next e)) parts.0 in
        same_here g made b x y y' hidden e step.0 (not_false (waits_for_output g e) parts.1)

    safety_same : (e : Formula) → is_safety_assumption g e ≡ true → line_holds g (waits_for_output g e) b (reached g b x y) e ≡ line_holds g (waits_for_output g e) b (reached g b x y') e
    safety_same e ok = at (waits_for_output g e) refl
      where
        at : (w : Bool) → waits_for_output g e ≡ w → line_holds g (waits_for_output g e) b (reached g b x y) e ≡ line_holds g (waits_for_output g e) b (reached g b x y') e
        at true is = rw is (same_late g b x y y' e ok)
        at false is = rw is (same_here g made b x y y' hidden e (and_parts (is_step_formula (scope_of g) e) (not (awaits_output g.variables false e)) ok).0 is)

    assumptions_same : assumptions_hold g b (reached g b x y) ≡ assumptions_hold g b (reached g b x y')
    assumptions_same =
        ap (λ c. (is_some b || c) && list_all (λ l. line_holds g (waits_for_output g l.1) b (reached g b x y) l.1) g.safe_asm)
        (lines_same (λ l. is_initial_assumption g l.1) (λ l. line_holds g false b (reached g b x y) l.1) (λ l. line_holds g false b (reached g b x y') l.1) (λ l ok. initial_same l.1 ok) g.initial_asm made.initial_asm)
        ∙ ap (λ c. (is_some b || list_all (λ l. line_holds g false b (reached g b x y') l.1) g.initial_asm) && c)
        (lines_same (λ l. is_safety_assumption g l.1) (λ l. line_holds g (waits_for_output g l.1) b (reached g b x y) l.1) (λ l. line_holds g (waits_for_output g l.1) b (reached g b x y') l.1) (λ l ok. safety_same l.1 ok) g.safe_asm made.safe_asm)

  pub assume_nothing_of_replies : AssumeNothingOfReplies g
  assume_nothing_of_replies b x y here =
      let hidden = (and_parts (are_hidden_values g.hidden (reached g b x y).hidden) _ here).0 in
      let some : list_any (λ (z : Assignment). true) (outputs_of g) ≡ true = output_suffices g (λ z. true) y (and_parts (is_input g x) (is_output g y) (and_parts (are_hidden_values g.hidden (reached g b x y).hidden) _ here).1).1 refl in
      all_alike (λ y'. assumptions_hold g b (reached g b x y')) (assumptions_hold g b (reached g b x y)) (λ y'. sym (assumptions_same b x y y' hidden)) (outputs_of g) some

some_first : {X : Type 0} (Q : X → Type 0) (xs : List X) → 0 < length xs → Every Q xs → (x : X) × Q x
some_first Q [] long all = absurd (omega arith)
some_first Q (x ∷ xs) long all = (x, all.0)

-- a well-made game has moves
pub has_moves : (g : GameData) → WellMade g → HasMoves g
has_moves g made =
    record {
      closed = closed g made;
      alike = assume_nothing_of_replies g made;
      some_output = some_first (λ y. is_output g y ≡ true) (outputs_of g) (some_choice (λ o. not (is_env o)) g.variables made.domains) (outputs_fit g);
    }
