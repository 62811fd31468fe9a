-- The game of a well-typed specification is well made.
use Rattle.std.proofs.Common.{◌≡◌, ℕ, suc, ◌+◌, ◌*◌, ◌^◌, ◌≤◌, ◌<◌, nat_lt, nat_le, All, Bool, true, false, not, ◌&&◌, ◌||◌, ◌==◌, List, [], ◌∷◌, ◌++◌, length, length-append, map, Option, Some, None, option_map, if◌then◌else◌, refl, sym, ap, ◌∙◌, arith, append_assoc, append-nil}
use Rattle.std.specs.List.{list_all, cons_option}
use Rattle.std.proofs.lemmas.Bool.{and_parts, and_from, false≢true, leb-true, lt-ltb}
use Rattle.std.proofs.lemmas.List.{length-map, map-append}
use Rattle.std.proofs.lemmas.List.Elements.{All-nil, All-cons}
use Rattle.std.proofs.lemmas.List.Folds.{list_all-append}
use Rattle.spec_model.specs.declared.spec.Role.{Role}
use Rattle.spec_model.specs.Values.{DomainData, TruthValues, WholeNumbers, Enumeration}
use Rattle.spec_model.specs.Syntax.{Formula, PastOf, Entry, Content, Initial, Safety, Recurring, PatternUse, TriggerUse, Statement, VariableData, Specification}
use Rattle.spec_model.specs.Typing.{Scope, kind_of, is_truth, truth_if, has_table}
use Rattle.spec_model.specs.Games.{GoalData, HiddenData}
use Rattle.spec_model.specs.Moves.{is_assumption, has_next, reads_present_output}
use Rattle.spec_model.specs.Sizes.{past_operators, past_trees_of_all}
use Rattle.spec_model.specs.Steps.{is_output_variable}
use Rattle.spec_model.specs.WellMade.{WellMade, is_domain, scope_of, is_step_formula, is_state_formula, is_initial_assumption, is_safety_assumption, is_table, are_tables, cell_count}
use Rattle.spec_model.specs.Laws.{NumbersRise}
use Rattle.spec_model.specs.WellTyped.{WellTyped, scope_of_specification, reads_some, shifts_some, is_typed, is_typed_state, is_typed_content, is_typed_line, is_domain_of, are_rising}
use Rattle.past_bits.specs.Bits.{table_of, tables_of}
use Rattle.past_bits.proofs.Plain.{is_plain, some_truth}
use Rattle.past_bits.proofs.Ordered.{covers, is_in_order, AreOrdered}
use Rattle.past_bits.proofs.Made.{ones, kind_same, tables_made}
use Rattle.past_bits.proofs.Typed.{lines_have_kinds}
use Rattle.pattern_rows.specs.Laws.{is_filled}
use Rattle.game_play.proofs.OutputReads.{not_false}
use Rattle.hidden_game.specs.declared.player.Player.{Player}
use Rattle.hidden_game.specs.declared.player.Player.TheVariants.{Environment, System}
use Rattle.hidden_game.specs.declared.player.Time.{Time}
use Rattle.hidden_game.specs.declared.player.Time.TheVariants.{First, Always}
use Rattle.hidden_game.specs.GameOf.{entered, line_table, entered_table, table_for, hidden_of, game_of, binds, said, numbered, lines_for, recurs, entries_from, entries_of, recurring, labelled_from, labelled, goal_for, next_table, goals_for}
use Rattle.hidden_game.proofs.Entered.{stepwise, awaits_none, none_present}
use Rattle.hidden_game.proofs.Known.{is_known, is_known_state, is_known_table, is_known_content, known_nested, known_truth, known_covered, state_known, operators_ordered, lines_known}
use Rattle.hidden_game.proofs.Waiting.{next_same, waits_same}
use Rattle.hidden_game.proofs.LineValues.{tables_in, tables_entered, tables_known}

-- the number of the table behind one more
pub next_place : (n : ℕ) (pre : List HiddenData) (h : HiddenData) → suc (n + length pre) ≡ n + length (pre ++ h ∷ [])
next_place n pre h = let long = length-append pre (h ∷ []) in omega (arith, long)

-- ---- scopes

-- how many truth tables each of some tables has
abbrev counts : List HiddenData → List ℕ
counts hs = map (λ h. length h.tables) hs

module _ (s : Specification) where
  -- what may be read where the operators' tables and some more stand before
  abbrev wide : List ℕ → Scope
  wide more = record { domains = map (λ v. v.domain) s.variables; tables = ones (past_operators s) ++ more }

  step_made : (more : List ℕ) (e : Formula) → is_known s e ≡ true → is_step_formula (wide more) (entered s e) ≡ true
  step_made more e known =
      let ops = past_operators s in
      let kind = known_truth s e known in
      and_from (is_truth (kind_of (wide more) (entered s e))) _
      (ap is_truth (kind_same (map (λ v. v.domain) s.variables) ops ops [] (sym (append-nil ops)) more e (some_truth (kind_of (scope_of_specification s) e) kind) (known_covered s e known)) ∙ kind)
      (stepwise ops (length s.names) false false e (known_nested s e known))

  module _ (ordered : AreOrdered s) where
    state_made : (more : List ℕ) (e : Formula) → is_known_state s e ≡ true → is_state_formula (wide more) (entered s e) ≡ true
    state_made more e known =
        let parts = state_known s e known in
        and_from (is_step_formula (wide more) (entered s e)) _ (step_made more e parts.0) (ap not (next_same s ordered e parts.0 ∙ parts.1))

    -- ---- hidden tables

    states_made : (more : List ℕ) (es : List Formula) → list_all (is_known_state s) es ≡ true → list_all (is_state_formula (wide more)) (map (entered s) es) ≡ true
    states_made more [] known = refl
    states_made more (e ∷ es) known =
        let parts = and_parts (is_known_state s e) (list_all (is_known_state s) es) known in
        and_from _ _ (state_made more e parts.0) (states_made more es parts.1)

    table_made : (more : List ℕ) (h : HiddenData) → is_known_table s h ≡ true → is_table (wide more) (entered_table s h) ≡ true
    table_made more h known =
        let both = and_parts (is_filled h) (list_all (is_known_state s) h.atoms) known in
        let many = sym (length-map h.atoms (entered s)) in
        let one = and_parts (nat_lt h.first h.values) _ both.0 in
        let two = and_parts (list_all (λ v. nat_lt v h.values) h.next) _ one.1 in
        let three = and_parts (length h.next == cell_count h) (list_all (λ (table : List Bool). length table == cell_count h) h.tables) two.1 in
        and_from _ _ one.0
        (and_from _ _ two.0
        (and_from _ _ (ap (λ n. length h.next == h.values * 2 ^ n) (sym many) ∙ three.0)
        (and_from _ _ (ap (λ n. list_all (λ (table : List Bool). length table == h.values * 2 ^ n) h.tables) (sym many) ∙ three.1) (states_made more h.atoms both.1))))

    lines_tables_made : (more : List ℕ) (hs : List HiddenData) → list_all (is_known_table s) hs ≡ true → are_tables (wide more) (map (entered_table s) hs) ≡ true
    lines_tables_made more [] known = refl
    lines_tables_made more (h ∷ hs) known =
        let parts = and_parts (is_known_table s h) (list_all (is_known_table s) hs) known in
        and_from _ _ (table_made more h parts.0)
        (ap (λ ns. are_tables (record { domains = map (λ v. v.domain) s.variables; tables = ns }) (map (entered_table s) hs)) (append_assoc (ones (past_operators s)) more (length h.tables ∷ []))
        ∙ lines_tables_made (more ++ length h.tables ∷ []) hs parts.1)

  -- tables that are made after others that are
  are_joined : (ns : List ℕ) (hs ks : List HiddenData) → are_tables (record { domains = map (λ v. v.domain) s.variables; tables = ns }) hs ≡ true →
      are_tables (record { domains = map (λ v. v.domain) s.variables; tables = ns ++ counts hs }) ks ≡ true → are_tables (record { domains = map (λ v. v.domain) s.variables; tables = ns }) (hs ++ ks) ≡ true
  are_joined ns [] ks first second = ap (λ ms. are_tables (record { domains = map (λ v. v.domain) s.variables; tables = ms }) ks) (sym (append-nil ns)) ∙ second
  are_joined ns (h ∷ hs) ks first second =
      let parts = and_parts (is_table (record { domains = map (λ v. v.domain) s.variables; tables = ns }) h) _ first in
      and_from _ _ parts.0
      (are_joined (ns ++ length h.tables ∷ []) hs ks parts.1
      (ap (λ ms. are_tables (record { domains = map (λ v. v.domain) s.variables; tables = ms }) ks) (append_assoc ns (length h.tables ∷ []) (counts hs)) ∙ second))

  -- each operator's table has one truth table
  one_each : (ops pre post : List Formula) → is_in_order pre post ≡ true → counts (map (table_of ops) post) ≡ ones post
  one_each ops pre [] order = refl
  one_each ops pre (PastOf op es ∷ post) order =
      let first = and_parts (is_plain false (PastOf op es)) (covers pre (past_trees_of_all es) && is_in_order (pre ++ PastOf op es ∷ []) post) order in
      let second = and_parts (covers pre (past_trees_of_all es)) (is_in_order (pre ++ PastOf op es ∷ []) post) first.1 in
      ap (λ ns. 1 ∷ ns) (one_each ops (pre ++ PastOf op es ∷ []) post second.1)
  one_each ops pre (_ ∷ post) order = absurd (false≢true order)

  -- ---- what the lines and goals of the game may read

  module _ (typed : WellTyped s) where
    ordered : AreOrdered s
    ordered = operators_ordered s typed

    line_counts : List ℕ
    line_counts = counts (map (entered_table s) (tables_in s s.lines))

    scope_is : scope_of (game_of s) ≡ wide line_counts
    unfolding line_counts
    scope_is =
        ap (λ ns. record { domains = map (λ v. v.domain) s.variables; tables = ns })
        (ap (λ hs. counts (tables_of (past_operators s) ++ hs)) (tables_entered s s.lines)
        ∙ (map-append (λ (h : HiddenData). length h.tables) (tables_of (past_operators s)) (map (entered_table s) (tables_in s s.lines))
        ∙ ap (λ ns. ns ++ counts (map (entered_table s) (tables_in s s.lines))) (one_each (past_operators s) [] (past_operators s) ordered.order)))

    pub hidden_made : are_tables (scope_of_specification s) (hidden_of s) ≡ true
    hidden_made =
        ap (λ hs. are_tables (scope_of_specification s) (tables_of (past_operators s) ++ hs)) (tables_entered s s.lines)
        ∙ are_joined [] (tables_of (past_operators s)) (map (entered_table s) (tables_in s s.lines))
        (tables_made s (lines_have_kinds s typed) ordered)
        (ap (λ ns. are_tables (record { domains = map (λ v. v.domain) s.variables; tables = ns }) (map (entered_table s) (tables_in s s.lines)))
        (one_each (past_operators s) [] (past_operators s) ordered.order ∙ sym (append-nil (ones (past_operators s))))
        ∙ lines_tables_made ordered [] (tables_in s s.lines) (tables_known s s.lines (lines_known s typed)))

    game_step : (e : Formula) → is_known s e ≡ true → is_step_formula (scope_of (game_of s)) (entered s e) ≡ true
    game_step e known = ap (λ sc. is_step_formula sc (entered s e)) scope_is ∙ step_made line_counts e known

    game_state : (e : Formula) → is_known_state s e ≡ true → is_state_formula (scope_of (game_of s)) (entered s e) ≡ true
    game_state e known = ap (λ sc. is_state_formula sc (entered s e)) scope_is ∙ state_made ordered line_counts e known

    -- ---- lines

    -- what an assumption must not, where it is one
    unless : (b c : Bool) → b ≡ true → not (b && c) ≡ true → c ≡ false
    unless true c is e = not_false c e
    unless false c is e = absurd (false≢true is)

    unwaited : (a b : Bool) → a ≡ false → b ≡ false → not (a || b) ≡ true
    unwaited true b e f = absurd (false≢true (sym e))
    unwaited false b e f = ap not f

    -- a formula that is judged for a player at this time
    abbrev made_of : Player → Time → Formula → Bool
    made_of Environment First = is_initial_assumption (game_of s)
    made_of Environment Always = is_safety_assumption (game_of s)
    made_of System First = is_state_formula (scope_of (game_of s))
    made_of System Always = is_step_formula (scope_of (game_of s))

    initial_made : (player : Player) (role : Role) (e : Formula) → binds player role ≡ true → is_known_state s e ≡ true → is_typed_content s (is_assumption role) (Initial e) ≡ true → made_of player First (entered s e) ≡ true
    initial_made Environment role e binding known is =
        let parts = and_parts (is_typed_state (scope_of_specification s) (length s.names) e) _ is in
        let state = state_known s e known in
        and_from (is_state_formula (scope_of (game_of s)) (entered s e)) _ (game_state e known)
        (ap not (waits_same s ordered e state.0)
        ∙ unwaited (has_next e) (reads_present_output s e) state.1
        (none_present (is_output_variable s.variables) e (unless (is_assumption role) (reads_some (is_output_variable s.variables) e) binding parts.1)))
    initial_made System role e binding known is = game_state e known

    safety_made : (player : Player) (role : Role) (e : Formula) → binds player role ≡ true → is_known s e ≡ true → is_typed_content s (is_assumption role) (Safety e) ≡ true → made_of player Always (entered s e) ≡ true
    safety_made Environment role e binding known is =
        let parts = and_parts (is_typed (scope_of_specification s) (length s.names) e) _ is in
        and_from (is_step_formula (scope_of (game_of s)) (entered s e)) _ (game_step e known)
        (ap not (awaits_none (past_operators s) (length s.names) s.variables false e (known_nested s e known) (unless (is_assumption role) (shifts_some (is_output_variable s.variables) e) binding parts.1)))
    safety_made System role e binding known is = game_step e known

    abbrev Each : (Formula → Bool) → List (ℕ × Formula) → Bool
    Each test ls = list_all (λ (l : ℕ × Formula). test l.1) ls

    -- one line more
    first_made : (player : Player) (b : Bool) (role : Role) (n : ℕ) (c : Content) (rest : List (ℕ × Formula)) → binds player role ≡ b → is_known_content s c ≡ true → is_typed_content s (is_assumption role) c ≡ true →
        Each (made_of player First) rest ≡ true → Each (made_of player First) ((if b then numbered n (option_map (entered s) (said First c)) else []) ++ rest) ≡ true
    first_made player false role n c rest binding known is all = all
    first_made player true role n (Initial e) rest binding known is all = and_from (made_of player First (entered s e)) _ (initial_made player role e binding known is) all
    first_made player true role n (Safety e) rest binding known is all = all
    first_made player true role n (Recurring e) rest binding known is all = all
    first_made player true role n (PatternUse p es) rest binding known is all = all
    first_made player true role n (TriggerUse t) rest binding known is all = all

    always_made : (player : Player) (b : Bool) (role : Role) (n : ℕ) (c : Content) (rest : List (ℕ × Formula)) → binds player role ≡ b → is_known_content s c ≡ true → is_typed_content s (is_assumption role) c ≡ true →
        Each (made_of player Always) rest ≡ true → Each (made_of player Always) ((if b then numbered n (option_map (entered s) (said Always c)) else []) ++ rest) ≡ true
    always_made player false role n c rest binding known is all = all
    always_made player true role n (Initial e) rest binding known is all = all
    always_made player true role n (Safety e) rest binding known is all = and_from (made_of player Always (entered s e)) _ (safety_made player role e binding known is) all
    always_made player true role n (Recurring e) rest binding known is all = all
    always_made player true role n (PatternUse p es) rest binding known is all = all
    always_made player true role n (TriggerUse t) rest binding known is all = all

    all_first : (player : Player) (ls : List Statement) → list_all (λ (l : Statement). is_known_content s l.content) ls ≡ true → list_all (is_typed_line s) ls ≡ true → Each (made_of player First) (lines_for s player First ls) ≡ true
    all_first player [] known is = refl
    all_first player (l ∷ ls) known is =
        let knowns = and_parts (is_known_content s l.content) _ known in
        let parts = and_parts (is_typed_line s l) _ is in
        first_made player (binds player l.role) l.role l.number l.content (lines_for s player First ls) refl knowns.0 parts.0 (all_first player ls knowns.1 parts.1)

    all_always : (player : Player) (ls : List Statement) → list_all (λ (l : Statement). is_known_content s l.content) ls ≡ true → list_all (is_typed_line s) ls ≡ true → Each (made_of player Always) (lines_for s player Always ls) ≡ true
    all_always player [] known is = refl
    all_always player (l ∷ ls) known is =
        let knowns = and_parts (is_known_content s l.content) _ known in
        let parts = and_parts (is_typed_line s l) _ is in
        always_made player (binds player l.role) l.role l.number l.content (lines_for s player Always ls) refl knowns.0 parts.0 (all_always player ls knowns.1 parts.1)

    -- ---- goals

    abbrev IsState : Formula → Bool
    IsState = is_state_formula (scope_of (game_of s))

    abbrev IsGoal : GoalData → Bool
    IsGoal goal = IsState goal.holds

    labelled_from_made : (line part : ℕ) (es : List Formula) → list_all IsState es ≡ true → list_all IsGoal (labelled_from line part es) ≡ true
    labelled_from_made line part [] all = refl
    labelled_from_made line part (e ∷ es) all = let parts = and_parts (IsState e) (list_all IsState es) all in and_from _ _ parts.0 (labelled_from_made line (suc part) es parts.1)

    labelled_made : (line : ℕ) (es : List Formula) → list_all IsState es ≡ true → list_all IsGoal (labelled line es) ≡ true
    labelled_made line [] all = refl
    labelled_made line (e ∷ []) all = labelled_from_made line 0 (e ∷ []) all
    labelled_made line (e ∷ f ∷ es) all = labelled_from_made line 1 (e ∷ f ∷ es) all

    -- a table that stands behind some others
    has_here : (xs ys : List ℕ) (n part : ℕ) → nat_lt part n ≡ true → has_table (xs ++ n ∷ ys) (length xs) part ≡ true
    has_here [] ys n part below = below
    has_here (x ∷ xs) ys n part below = has_here xs ys n part below

    module _ (pre post : List HiddenData) (h : HiddenData) (split : tables_in s s.lines ≡ pre ++ h ∷ post) where
      tables_before : List ℕ
      tables_before = ones (past_operators s) ++ counts (map (entered_table s) pre)

      counts_split : ones (past_operators s) ++ line_counts ≡ tables_before ++ length h.tables ∷ counts (map (entered_table s) post)
      unfolding line_counts tables_before
      counts_split =
          ap (λ hs. ones (past_operators s) ++ counts (map (entered_table s) hs)) split
          ∙ (ap (λ hs. ones (past_operators s) ++ counts hs) (map-append (entered_table s) pre (h ∷ post))
          ∙ (ap (λ ns. ones (past_operators s) ++ ns) (map-append (λ (h : HiddenData). length h.tables) (map (entered_table s) pre) (entered_table s h ∷ map (entered_table s) post))
          ∙ sym (append_assoc (ones (past_operators s)) (counts (map (entered_table s) pre)) (length h.tables ∷ counts (map (entered_table s) post)))))

      many_before : length tables_before ≡ length (past_operators s) + length pre
      unfolding tables_before
      many_before =
          length-append (ones (past_operators s)) (counts (map (entered_table s) pre))
          ∙ (λ i. length-map {B = ℕ} (past_operators s) (λ e. 1) i + (length-map (map (entered_table s) pre) (λ (h : HiddenData). length h.tables) ∙ length-map pre (entered_table s)) i)

      entry_made : (part : ℕ) → part < length h.tables → IsState (Entry (length (past_operators s) + length pre) part) ≡ true
      entry_made part below =
          ap (λ sc. is_state_formula sc (Entry (length (past_operators s) + length pre) part)) scope_is
          ∙ (ap (λ ns. is_truth (truth_if (has_table ns (length (past_operators s) + length pre) part)) && true && true) counts_split
          ∙ (ap (λ k. is_truth (truth_if (has_table (tables_before ++ length h.tables ∷ counts (map (entered_table s) post)) k part)) && true && true) (sym many_before)
          ∙ ap (λ b. is_truth (truth_if b) && true && true) (has_here tables_before (counts (map (entered_table s) post)) (length h.tables) part (lt-ltb part (length h.tables) below))))

      entries_made : (part : ℕ) (tables : List (List Bool)) → part + length tables ≡ length h.tables → list_all IsState (entries_from (length (past_operators s) + length pre) part tables) ≡ true
      entries_made part [] all = refl
      entries_made part (t ∷ tables) all = and_from _ _ (entry_made part (omega (arith, all))) (entries_made (suc part) tables (omega (arith, all)))

    table_states : (pre post : List HiddenData) (o : Option HiddenData) → tables_in s s.lines ≡ pre ++ cons_option o post →
        list_all IsState (entries_of (length (past_operators s) + length pre) (option_map (entered_table s) o)) ≡ true
    table_states pre post None split = refl
    table_states pre post (Some h) split = entries_made pre post h split 0 h.tables (omega arith)

    recurring_made : (pre post : List HiddenData) (c : Content) → is_known_content s c ≡ true → tables_in s s.lines ≡ pre ++ cons_option (line_table s c) post →
        list_all IsState (recurring s (length (past_operators s) + length pre) c) ≡ true
    recurring_made pre post (Initial e) known split = refl
    recurring_made pre post (Safety e) known split = refl
    recurring_made pre post (Recurring e) known split = and_from _ _ (game_state e known) refl
    recurring_made pre post (PatternUse p es) known split = table_states pre post (line_table s (PatternUse p es)) split
    recurring_made pre post (TriggerUse t) known split = table_states pre post (line_table s (TriggerUse t)) split

    goal_made : (b : Bool) (line : ℕ) (es : List Formula) → list_all IsState es ≡ true → list_all IsGoal (if b then labelled line es else []) ≡ true
    goal_made true line es all = labelled_made line es all
    goal_made false line es all = refl

    all_goals : (player : Player) (ls : List Statement) (pre : List HiddenData) → list_all (λ (l : Statement). is_known_content s l.content) ls ≡ true → tables_in s s.lines ≡ pre ++ tables_in s ls →
        list_all IsGoal (goals_for s player (length (past_operators s) + length pre) ls) ≡ true
    all_goals player [] pre known split = refl
    all_goals player (l ∷ ls) pre known split =
        let parts = and_parts (is_known_content s l.content) _ known in
        list_all-append IsGoal (goal_for s player (length (past_operators s) + length pre) l) (goals_for s player (next_table (length (past_operators s) + length pre) (table_for s l.content)) ls)
        ∙ and_from _ _
        (goal_made (recurs player l.role) l.number (recurring s (length (past_operators s) + length pre) l.content) (recurring_made pre (tables_in s ls) l.content parts.0 split))
        (at (line_table s l.content) split (λ before is. all_goals player ls before parts.1 is))
      where
        at : (o : Option HiddenData) → tables_in s s.lines ≡ pre ++ cons_option o (tables_in s ls) →
            ((before : List HiddenData) → tables_in s s.lines ≡ before ++ tables_in s ls → list_all IsGoal (goals_for s player (length (past_operators s) + length before) ls) ≡ true) →
            list_all IsGoal (goals_for s player (next_table (length (past_operators s) + length pre) (option_map (entered_table s) o)) ls) ≡ true
        at None split rest = rest pre split
        at (Some h) split rest =
            ap (λ k. list_all IsGoal (goals_for s player k ls)) (next_place (length (past_operators s)) pre h)
            ∙ rest (pre ++ h ∷ []) (split ∙ sym (append_assoc pre (h ∷ []) (tables_in s ls)))

-- ---- variables

domain_made : (m : ℕ) (d : DomainData) → is_domain_of m d ≡ true → is_domain d ≡ true
domain_made m TruthValues is = is
domain_made m (WholeNumbers lo hi) is = is
domain_made m (Enumeration ks) is = (and_parts (is_domain (Enumeration ks)) _ is).0

domains_made : (m : ℕ) (vs : List VariableData) → list_all (λ (v : VariableData). is_domain_of m v.domain) vs ≡ true → list_all (λ (v : VariableData). is_domain v.domain) vs ≡ true
domains_made m [] all = refl
domains_made m (v ∷ vs) all =
    let parts = and_parts (is_domain_of m v.domain) _ all in
    and_from (is_domain v.domain) _ (domain_made m v.domain parts.0) (domains_made m vs parts.1)

-- ---- games

pub typed_games_made : (s : Specification) → WellTyped s → WellMade (game_of s)
typed_games_made s typed =
    let known = lines_known s typed in
    record {
      few_variables = typed.few_variables;
      names = typed.different_variables;
      spelled = typed.spelled_variables;
      domains = domains_made (length s.names) s.variables typed.domains;
      hidden = hidden_made s typed;
      initial_asm = all_first s typed Environment s.lines known typed.lines;
      initial_gar = all_first s typed System s.lines known typed.lines;
      safe_asm = all_always s typed Environment s.lines known typed.lines;
      safe_gar = all_always s typed System s.lines known typed.lines;
      assume = whole Environment known;
      goals = whole System known;
    }
  where
    none_before : length (past_operators s) ≡ length (past_operators s) + 0
    none_before = omega arith

    whole : (player : Player) → list_all (λ (l : Statement). is_known_content s l.content) s.lines ≡ true →
        list_all (λ (goal : GoalData). is_state_formula (scope_of (game_of s)) goal.holds) (goals_for s player (length (past_operators s)) s.lines) ≡ true
    whole player known = ap (λ k. list_all (λ (goal : GoalData). is_state_formula (scope_of (game_of s)) goal.holds) (goals_for s player k s.lines)) none_before ∙ all_goals s typed player s.lines [] known refl

-- ---- lines

above_least : (least : ℕ) (ls : List Statement) → are_rising least ls ≡ true → All (λ (l : Statement). least ≤ l.number) ls
above_least least [] rising = All-nil (λ (l : Statement). least ≤ l.number)
above_least least (l ∷ ls) rising =
    let parts = and_parts (nat_le least l.number) _ rising in
    let rest = and_parts (nat_le l.number 4097) _ parts.1 in
    let here : least ≤ l.number = leb-true least l.number parts.0 in
    let later = above_least (suc l.number) ls rest.1 in
    All-cons (λ (m : Statement). least ≤ m.number) l ls here (λ k d lt. let above = later k d lt in omega (arith, here, above))

rise_from : (least : ℕ) (ls : List Statement) → are_rising least ls ≡ true → NumbersRise ls
rise_from least [] rising = tt
rise_from least (l ∷ ls) rising =
    let parts = and_parts (nat_le least l.number) _ rising in
    let rest = and_parts (nat_le l.number 4097) _ parts.1 in
    let later = above_least (suc l.number) ls rest.1 in
    ((λ k d lt. let above = later k d lt in omega (arith, above)), rise_from (suc l.number) ls rest.1)

-- the lines of a well-typed specification are numbered in text order
pub lines_rise : (s : Specification) → WellTyped s → NumbersRise s.lines
lines_rise s typed = rise_from 1 s.lines typed.rising
