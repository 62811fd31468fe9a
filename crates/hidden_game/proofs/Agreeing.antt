-- How the game of a specification judges its lines after a run: as the specification does.
use Rattle.std.proofs.Common.{◌≡◌, ℕ, zero, suc, Bool, true, false, not, ◌||◌, [], ◌∷◌, ◌++◌, length, get_or, Some, is_some, is_none, if◌then◌else◌, refl, sym, ap, ◌∙◌, subst, arith}
use Rattle.std.specs.List.{list_all}
use Rattle.std.proofs.lemmas.Bool.{and_parts}
use Rattle.spec_model.specs.Values.{Assignment, truth_of}
use Rattle.spec_model.specs.Syntax.{Formula, Initial, Safety, Statement, Specification}
use Rattle.spec_model.specs.Meaning.{holds_at}
use Rattle.spec_model.specs.Rules.{Run, Position, after, after_input}
use Rattle.spec_model.specs.Moves.{is_env, nothing, value_among, reading_of, has_next, reads_present_output, at_first, one_before, fails_at, broken_by_input, broken_by_output, input_breaks, output_breaks, broken_assumption, broken_guarantee}
use Rattle.spec_model.specs.Games.{GameData, State, entry_at, step_reading, outputs_of, nothing_read}
use Rattle.spec_model.specs.GameRuns.{hidden_at, state_at, game_reading}
use Rattle.spec_model.specs.Steps.{Before, are_hidden_values, waits_for_output, line_holds, reached, assumptions_hold, guarantees_hold, legal_input as legal_input_from}
use Rattle.spec_model.specs.GameRules.{before_at, last_state}
use Rattle.spec_model.specs.WellMade.{WellMade, is_step_formula, is_state_formula, is_initial_assumption, is_safety_assumption, awaits_output, scope_of}
use Rattle.spec_model.proofs.Closed.{firsts_fit, nexts_fit}
use Rattle.spec_model.proofs.Running.{state_at-earlier, state_at-last}
use Rattle.past_bits.proofs.Ordered.{AreOrdered}
use Rattle.past_bits.proofs.Runs.{formula_agrees}
use Rattle.game_play.proofs.OutputReads.{not_false, or_none}
use Rattle.game_play.proofs.Readings.{Share, value_now}
use Rattle.game_play.proofs.Choices.{some_choice, all_alike}
use Rattle.game_play.proofs.AnyOutput.{same_here, same_late}
use Rattle.hidden_game.specs.GameOf.{entered, tables_for, game_of}
use Rattle.hidden_game.specs.declared.player.Player.TheVariants.{Environment, System}
use Rattle.hidden_game.proofs.Entered.{stepwise}
use Rattle.hidden_game.proofs.Known.{is_known, is_known_state, is_known_content, known_plain, known_covered, known_nested, state_known}
use Rattle.hidden_game.proofs.Waiting.{next_same, waits_same}
use Rattle.hidden_game.proofs.Lines.{none_found, lines_hold}

-- ---- the hidden values along a run

-- they are values of the tables
pub values_fit : (g : GameData) → WellMade g → (h : Run) (t : ℕ) → are_hidden_values g.hidden (hidden_at g h t) ≡ true
values_fit g made h zero = firsts_fit _ g.hidden made.hidden
values_fit g made h (suc t) =
    let fit = nexts_fit g.variables (get_or h t nothing) nothing_read _ g.hidden (hidden_at g h t) made.hidden (values_fit g made h t) in
    ap (are_hidden_values g.hidden) fit.1 ∙ fit.2

-- so are those of the state that a move leads to
pub reached_fit : (g : GameData) → WellMade g → (h : Run) (x y : Assignment) → are_hidden_values g.hidden (reached g (last_state g h) x y).hidden ≡ true
reached_fit g made h x y = at (length h)
  where
    at : (t : ℕ) → are_hidden_values g.hidden (reached g (before_at g h t) x y).hidden ≡ true
    at zero = values_fit g made h 0
    at (suc t) = values_fit g made h (suc t)

-- ---- one line

twice : (b : Bool) → not (not b) ≡ b
twice true = refl
twice false = refl

last_of : (h : Run) (p : Position) → get_or (h ++ p ∷ []) (length h) nothing ≡ p
last_of [] p = refl
last_of (q ∷ h) p = last_of h p

module _ (s : Specification) (ordered : AreOrdered s) where
  -- a formula of a line has its value on the run
  pub value_same : (h : Run) (t : ℕ) (e : Formula) → is_known s e ≡ true → holds_at (game_reading (game_of s) h) (entered s e) t ≡ holds_at (reading_of s h) e t
  value_same h t e known =
      ap truth_of (formula_agrees s (game_of s) ordered (record { variables = refl; hidden = (tables_for s s.lines, refl) }) h t e (known_plain s e known) (known_covered s e known))

  module _ (h : Run) (x y : Assignment) where
    abbrev p : Position
    p = record { input = x; output = y }

    -- a line that is judged at the position that is made
    here : (e : Formula) → is_known s e ≡ true → has_next e ≡ false →
        holds_at (reading_of s (after h x y)) e (length h) ≡ line_holds (game_of s) false (last_state (game_of s) h) (reached (game_of s) (last_state (game_of s) h) x y) (entered s e)
    here e known none =
        sym (value_same (after h x y) (length h) e known)
        ∙ ap truth_of (value_now s.variables [] true true false _ _ (length h) 0 share (entered s e) (stepwise _ (length s.names) false false e (known_nested s e known), refl, refl, ap not (next_same s ordered e known ∙ none)))
      where
        made : State
        made = reached (game_of s) (last_state (game_of s) h) x y

        is : state_at (game_of s) (after h x y) (length h) ≡ made
        is = state_at-last (game_of s) h p

        share : Share s.variables [] true true false (game_reading (game_of s) (after h x y)) (step_reading (game_of s) made made) (length h) 0
        share =
            record {
              variable = λ k suits. ap (λ (st : State). value_among s.variables st.position k) is;
              entry = λ n part suits. ap (λ (st : State). entry_at (game_of s) st n part) is;
              next_variable = λ never. absurd (cc);
            }

    -- a line that is judged at the position before
    late : (t : ℕ) → length h ≡ suc t → (e : Formula) → is_known s e ≡ true →
        holds_at (reading_of s (after h x y)) e t ≡ line_holds (game_of s) true (Some (state_at (game_of s) h t)) (reached (game_of s) (Some (state_at (game_of s) h t)) x y) (entered s e)
    late t long e known =
        sym (value_same (after h x y) t e known)
        ∙ ap truth_of (value_now s.variables [] true true true _ _ t 0 share (entered s e) (stepwise _ (length s.names) false false e (known_nested s e known), refl, refl, refl))
      where
        is : state_at (game_of s) (after h x y) t ≡ state_at (game_of s) h t
        is = state_at-earlier (game_of s) h p t (omega (arith, long))

        next : get_or (after h x y) (suc t) nothing ≡ p
        next = ap (λ n. get_or (after h x y) n nothing) (sym long) ∙ last_of h p

        share : Share s.variables [] true true true (game_reading (game_of s) (after h x y)) (step_reading (game_of s) (state_at (game_of s) h t) (reached (game_of s) (Some (state_at (game_of s) h t)) x y)) t 0
        share =
            record {
              variable = λ k suits. ap (λ (st : State). value_among s.variables st.position k) is;
              entry = λ n part suits. ap (λ (st : State). entry_at (game_of s) st n part) is;
              next_variable = λ there k suits. ap (λ (q : Position). value_among s.variables q k) next;
            }

    -- ---- how a line is judged after a run

    -- at the first position
    first_judged : (e : Formula) → is_known s e ≡ true → has_next e ≡ false →
        not (fails_at (reading_of s (after h x y)) e (at_first (length h))) ≡ (is_some (last_state (game_of s) h) || line_holds (game_of s) false (last_state (game_of s) h) (reached (game_of s) (last_state (game_of s) h) x y) (entered s e))
    first_judged e known none = by_length (length h) refl
      where
        At : ℕ → Type 0
        At n = not (fails_at (reading_of s (after h x y)) e (at_first n)) ≡ (is_some (before_at (game_of s) h n) || line_holds (game_of s) false (before_at (game_of s) h n) (reached (game_of s) (before_at (game_of s) h n) x y) (entered s e))

        by_length : (n : ℕ) → length h ≡ n → At (length h)
        by_length zero is =
            subst At (sym is)
            (twice _ ∙ subst (λ n. holds_at (reading_of s (after h x y)) e n ≡ line_holds (game_of s) false (before_at (game_of s) h n) (reached (game_of s) (before_at (game_of s) h n) x y) (entered s e)) is (here e known none))
        by_length (suc t) is = subst At (sym is) refl

    -- at each position, or at the one before where it waits
    judged : (e : Formula) (waits : Bool) → is_known s e ≡ true → (waits ≡ false → has_next e ≡ false) →
        not (fails_at (reading_of s (after h x y)) e (if waits then one_before (length h) else Some (length h))) ≡ line_holds (game_of s) waits (last_state (game_of s) h) (reached (game_of s) (last_state (game_of s) h) x y) (entered s e)
    judged e false known none = twice _ ∙ here e known (none refl)
    judged e true known none = by_length (length h) refl
      where
        At : ℕ → Type 0
        At n = not (fails_at (reading_of s (after h x y)) e (one_before n)) ≡ line_holds (game_of s) true (before_at (game_of s) h n) (reached (game_of s) (before_at (game_of s) h n) x y) (entered s e)

        by_length : (n : ℕ) → length h ≡ n → At (length h)
        by_length zero is = subst At (sym is) refl
        by_length (suc t) is = subst At (sym is) (twice _ ∙ late t is e known)

  -- ---- all lines

  module _ (made : WellMade (game_of s)) (known : list_all (λ (l : Statement). is_known_content s l.content) s.lines ≡ true) (h : Run) (x y : Assignment) where
    abbrev b : Before
    b = last_state (game_of s) h

    abbrev state : State
    state = reached (game_of s) b x y

    fits : are_hidden_values (game_of s).hidden (reached (game_of s) b x []).hidden ≡ true
    fits = reached_fit (game_of s) made h x []

    pub asm_first : (e : Formula) → is_known_state s e ≡ true → is_initial_assumption (game_of s) (entered s e) ≡ true →
        not (broken_by_input s (after_input h x) (length h) (Initial e)) ≡ (is_some b || line_holds (game_of s) false b state (entered s e))
    asm_first e is good =
        let parts = state_known s e is in
        let goods = and_parts (is_state_formula (scope_of (game_of s)) (entered s e)) (not (waits_for_output (game_of s) (entered s e))) good in
        let step = (and_parts (is_step_formula (scope_of (game_of s)) (entered s e)) (not (has_next (entered s e))) goods.0).0 in
        first_judged h x [] e parts.0 parts.1
        ∙ ap (λ t. is_some b || t) (same_here (game_of s) made b x [] y fits (entered s e) step (not_false (waits_for_output (game_of s) (entered s e)) goods.1))

    pub asm_always : (e : Formula) → is_known s e ≡ true → is_safety_assumption (game_of s) (entered s e) ≡ true →
        not (broken_by_input s (after_input h x) (length h) (Safety e)) ≡ line_holds (game_of s) (waits_for_output (game_of s) (entered s e)) b state (entered s e)
    asm_always e is good =
        ap (λ w. not (fails_at (reading_of s (after_input h x)) e (if w then one_before (length h) else Some (length h)))) (sym (waits_same s ordered e is))
        ∙ (judged h x [] e (waits_for_output (game_of s) (entered s e)) is (λ never. (or_none (has_next e) (reads_present_output s e) (sym (waits_same s ordered e is) ∙ never)).0)
        ∙ alike (waits_for_output (game_of s) (entered s e)) refl)
      where
        alike : (w : Bool) → waits_for_output (game_of s) (entered s e) ≡ w → line_holds (game_of s) w b (reached (game_of s) b x []) (entered s e) ≡ line_holds (game_of s) w b state (entered s e)
        alike true waits = same_late (game_of s) b x [] y (entered s e) good
        alike false waits = same_here (game_of s) made b x [] y fits (entered s e) (and_parts (is_step_formula (scope_of (game_of s)) (entered s e)) (not (awaits_output s.variables false (entered s e))) good).0 waits

    pub gar_first : (e : Formula) → is_known_state s e ≡ true →
        not (broken_by_output s (after h x y) (length h) (Initial e)) ≡ (is_some b || line_holds (game_of s) false b state (entered s e))
    gar_first e is = let parts = state_known s e is in first_judged h x y e parts.0 parts.1

    pub gar_always : (e : Formula) → is_known s e ≡ true →
        not (broken_by_output s (after h x y) (length h) (Safety e)) ≡ line_holds (game_of s) (has_next (entered s e)) b state (entered s e)
    gar_always e is =
        ap (λ w. not (fails_at (reading_of s (after h x y)) e (if w then one_before (length h) else Some (length h)))) (sym (next_same s ordered e is))
        ∙ judged h x y e (has_next (entered s e)) is (λ never. sym (next_same s ordered e is) ∙ never)

    assumptions_agree : is_none (broken_assumption s h x) ≡ assumptions_hold (game_of s) b state
    assumptions_agree =
        none_found (input_breaks s (after_input h x) (length h)) s.lines
        ∙ lines_hold s Environment (is_known_content s) (broken_by_input s (after_input h x) (length h)) (is_some b)
        (is_initial_assumption (game_of s)) (is_safety_assumption (game_of s))
        (line_holds (game_of s) false b state) (λ e. line_holds (game_of s) (waits_for_output (game_of s) e) b state e)
        asm_first asm_always (λ e. refl) (λ p es. refl) (λ t. refl) s.lines known made.initial_asm made.safe_asm

    pub outputs_agree : is_none (broken_guarantee s h x y) ≡ guarantees_hold (game_of s) b state
    outputs_agree =
        none_found (output_breaks s (after h x y) (length h)) s.lines
        ∙ lines_hold s System (is_known_content s) (broken_by_output s (after h x y) (length h)) (is_some b)
        (is_state_formula (scope_of (game_of s))) (is_step_formula (scope_of (game_of s)))
        (line_holds (game_of s) false b state) (λ e. line_holds (game_of s) (has_next e) b state e)
        (λ e is good. gar_first e is) (λ e is good. gar_always e is) (λ e. refl) (λ p es. refl) (λ t. refl) s.lines known made.initial_gar made.safe_gar

  pub inputs_agree : WellMade (game_of s) → list_all (λ (l : Statement). is_known_content s l.content) s.lines ≡ true → (h : Run) (x : Assignment) →
      is_none (broken_assumption s h x) ≡ legal_input_from (game_of s) (last_state (game_of s) h) x
  inputs_agree made known h x =
      sym (all_alike (λ y. assumptions_hold (game_of s) (last_state (game_of s) h) (reached (game_of s) (last_state (game_of s) h) x y)) (is_none (broken_assumption s h x)) (outputs_of (game_of s))
      (some_choice (λ o. not (is_env o)) s.variables made.domains) (λ y. sym (assumptions_agree made known h x y)))
