-- The goals of a specification's lines are the goals of its game.
use Rattle.std.proofs.Common.{◌≡◌, ℕ, zero, suc, ◌+◌, ◌*◌, ◌^◌, Bool, true, false, ◌==◌, List, [], ◌∷◌, ◌++◌, length, map, flat_map, get_or, Option, Some, None, option_map, unwrap_or, slice_get, if◌then◌else◌, refl, sym, ap, ◌∙◌, subst, arith, append_assoc}
use Rattle.std.specs.Prelude.{slice_index}
use Rattle.std.specs.List.{list_all, cons_option}
use Rattle.std.proofs.lemmas.Bool.{and_parts, eqb-true}
use Rattle.std.proofs.lemmas.List.{length-map, map-append}
use Rattle.spec_model.specs.declared.value.Value.{Value}
use Rattle.spec_model.specs.declared.value.Value.TheVariants as value
use Rattle.spec_model.specs.Syntax.{Formula, Variable, Content, Initial, Safety, Recurring, PatternUse, TriggerUse, PatternData, TriggerData, Statement, Specification}
use Rattle.spec_model.specs.Meaning.{Reading, holds_at}
use Rattle.spec_model.specs.Rules.{Run}
use Rattle.spec_model.specs.Moves.{reading_of, recurrences, numbered_from, labelled as labelled_goals, goals_of, is_assumption, is_guarantee}
use Rattle.spec_model.specs.Patterns.{pattern_holds}
use Rattle.spec_model.specs.Sizes.{past_operators}
use Rattle.spec_model.specs.Steps.{below}
use Rattle.spec_model.specs.Games.{HiddenData, letter_of, entry_at}
use Rattle.spec_model.specs.GameRuns.{state_at, game_reading, goals_in}
use Rattle.spec_model.specs.WellTyped.{WellTyped, has_arguments, is_typed_line, is_typed_content, is_typed_state, is_typed_pattern, is_typed_trigger, scope_of_specification}
use Rattle.game_values.proofs.Lists.{length-below}
use Rattle.past_bits.proofs.Ordered.{AreOrdered}
use Rattle.pattern_rows.specs.Rows.{by_cell, goal_holds, rows_of}
use Rattle.pattern_rows.specs.Laws.{cell_in, value_at_time}
use Rattle.pattern_rows.proofs.Cells.{holds_at_place}
use Rattle.pattern_rows.proofs.Filled.{typed_has_table}
use Rattle.pattern_rows.proofs.Runs.{is_table}
use Rattle.trigger_dfa.specs.Standings.{table_of}
use Rattle.trigger_dfa.specs.Along.{value_along, entry_along}
use Rattle.trigger_dfa.proofs.FilledTables.{typed_goal}
use Rattle.hidden_game.specs.declared.player.Player.{Player}
use Rattle.hidden_game.specs.declared.player.Player.TheVariants.{Environment, System}
use Rattle.hidden_game.specs.GameOf.{line_table, entered_table, table_for, game_of, recurs, entries_from, entries_of, recurring, labelled_from, labelled, goal_for, next_table, goals_for}
use Rattle.hidden_game.proofs.Known.{is_known_table, is_known_content, state_known, operators_ordered, lines_known}
use Rattle.hidden_game.proofs.LineValues.{tables_in, tables_known, entry_is}
use Rattle.hidden_game.proofs.Agreeing.{value_same}
use Rattle.hidden_game.proofs.MadeGames.{next_place}

-- ---- a pattern's table over the arguments of a use

module _ (p : PatternData) (args : List Formula) (many : length args ≡ p.params) (r : Reading) where
  abbrev over_args : HiddenData
  over_args = record (rows_of p) { atoms = args }

  abbrev bits : ℕ → List Bool
  bits t = map (λ e. holds_at r e t) args

  as_many : length args ≡ length (rows_of p).atoms
  as_many = many ∙ sym (length-map (below p.params) (λ k. Variable k) ∙ length-below p.params)

  cell_same : (v t : ℕ) → v * 2 ^ length args + letter_of (bits t) ≡ cell_in (rows_of p) v (bits t)
  cell_same v t = ap (λ n. v * 2 ^ n + letter_of (bits t)) as_many

  along_same : (t : ℕ) → value_along over_args r t ≡ value_at_time (rows_of p) bits t
  along_same zero = refl
  along_same (suc t) = ap (λ v. slice_index (rows_of p).next (v * 2 ^ length args + letter_of (bits t))) (along_same t) ∙ ap (slice_index (rows_of p).next) (cell_same (value_at_time (rows_of p) bits t) t)

  arguments_same : (t : ℕ) (es : List Formula) → map (λ (b : Bool). value.Bool b) (map (λ e. holds_at r e t) es) ≡ map (λ e. value.Bool (holds_at r e t)) es
  arguments_same t [] = refl
  arguments_same t (e ∷ es) = ap (λ vs. value.Bool (holds_at r e t) ∷ vs) (arguments_same t es)

  -- its entry for a goal tells whether the goal holds
  goal_is : (names : ℕ) → is_typed_pattern names p ≡ true → (t part : ℕ) (goal : Formula) → slice_get p.goals part ≡ Some goal →
      entry_along over_args r part t ≡ pattern_holds p (λ t. map (λ e. value.Bool (holds_at r e t)) args) goal t
  goal_is names typed t part goal is =
      let has = typed_has_table names p typed in
      let told = is_table p has.pattern has.determined in
      ap (λ v. get_or (get_or (rows_of p).tables part []) (v * 2 ^ length args + letter_of (bits t)) false) (along_same t)
      ∙ (ap (λ c. get_or (get_or (rows_of p).tables part []) c false) (cell_same (value_at_time (rows_of p) bits t) t)
      ∙ (told.entry bits (λ t. length-map args (λ e. holds_at r e t) ∙ many) t part goal is
      ∙ ap (λ (arguments : ℕ → List Value). pattern_holds p arguments goal t) (λ i t. arguments_same t args i)))

module _ (s : Specification) (typed : WellTyped s) where
  ordered : AreOrdered s
  ordered = operators_ordered s typed

  tables_fit : list_all (is_known_table s) (tables_in s s.lines) ≡ true
  tables_fit = tables_known s s.lines (lines_known s typed)

  -- what a formula of the game's goals tells on each run
  abbrev told_by : Formula → Run → ℕ → Bool
  told_by e h t = holds_at (game_reading (game_of s) h) e t

  -- ---- labels

  labelled_from-same : (line part : ℕ) (es : List Formula) → numbered_from line part (map told_by es) ≡ goals_in (game_of s) (labelled_from line part es)
  labelled_from-same line part [] = refl
  labelled_from-same line part (e ∷ es) = ap (λ gs. record { label = record { line = line; part = part }; holds = told_by e } ∷ gs) (labelled_from-same line (suc part) es)

  labelled-same : (line : ℕ) (es : List Formula) → labelled_goals line (map told_by es) ≡ goals_in (game_of s) (labelled line es)
  labelled-same line [] = refl
  labelled-same line (e ∷ []) = labelled_from-same line 0 (e ∷ [])
  labelled-same line (e ∷ f ∷ es) = labelled_from-same line 1 (e ∷ f ∷ es)

  -- ---- what recurs by a line whose table stands behind some others

  module _ (pre post : List HiddenData) where
    abbrev place : ℕ
    place = length (past_operators s) + length pre

    module _ (p : PatternData) (args : List Formula) (many : length args ≡ p.params) (well : is_typed_pattern (length s.names) p ≡ true)
        (split : tables_in s s.lines ≡ pre ++ record (rows_of p) { atoms = args } ∷ post) where
      abbrev of_goal : Formula → Run → ℕ → Bool
      of_goal goal h t = pattern_holds p (λ t. map (λ e. value.Bool (holds_at (reading_of s h) e t)) args) goal t

      entry_goal : (h : Run) (t part : ℕ) (goal : Formula) → slice_get p.goals part ≡ Some goal → entry_at (game_of s) (state_at (game_of s) h t) place part ≡ of_goal goal h t
      entry_goal h t part goal is =
          entry_is s ordered tables_fit h pre post (record (rows_of p) { atoms = args }) split t part
          ∙ goal_is p args many (reading_of s h) (length s.names) well t part goal is

      goals_from : (gs : List Formula) (part : ℕ) → ((k : ℕ) (goal : Formula) → slice_get gs k ≡ Some goal → slice_get p.goals (part + k) ≡ Some goal) →
          map of_goal gs ≡ map told_by (entries_from place part (map (λ goal. by_cell p (goal_holds goal)) gs))
      goals_from [] part each = refl
      goals_from (goal ∷ gs) part each =
          let first : part + 0 ≡ part = omega arith in
          let here = subst (λ n. slice_get p.goals n ≡ Some goal) first (each 0 goal refl) in
          let rest = goals_from gs (suc part) (λ k g is. let next : part + suc k ≡ suc part + k = omega arith in subst (λ n. slice_get p.goals n ≡ Some g) next (each (suc k) g is)) in
          λ i. (λ h t. sym (entry_goal h t part goal here) i) ∷ rest i

      pattern_goals : map of_goal p.goals ≡ map told_by (entries_from place 0 (rows_of p).tables)
      pattern_goals = goals_from p.goals 0 (λ k goal is. let same : k ≡ 0 + k = omega arith in subst (λ n. slice_get p.goals n ≡ Some goal) same is)

    of_pattern : (n : ℕ) (args : List Formula) (o : Option PatternData) → slice_get s.patterns n ≡ o → unwrap_or (option_map (λ (p : PatternData). p.params == length args) o) false ≡ true →
        tables_in s s.lines ≡ pre ++ cons_option (option_map (λ (p : PatternData). record (rows_of p) { atoms = args }) o) post →
        recurrences s (PatternUse n args) ≡ map told_by (entries_of place (option_map (entered_table s) (option_map (λ (p : PatternData). record (rows_of p) { atoms = args }) o)))
    of_pattern n args None found many split = rw found refl
    of_pattern n args (Some p) found many split =
        rw found (pattern_goals p args (sym (eqb-true p.params (length args) many)) (holds_at_place (is_typed_pattern (length s.names)) s.patterns n p typed.patterns found) split)

    of_trigger : (n : ℕ) (o : Option TriggerData) → slice_get s.triggers n ≡ o → tables_in s s.lines ≡ pre ++ cons_option (option_map table_of o) post →
        recurrences s (TriggerUse n) ≡ map told_by (entries_of place (option_map (entered_table s) (option_map table_of o)))
    of_trigger n None found split = rw found refl
    of_trigger n (Some tr) found split =
        rw found
        (λ i.
        (λ h t.
        sym (entry_is s ordered tables_fit h pre post (table_of tr) split t 0 ∙ typed_goal s tr (holds_at_place (is_typed_trigger s) s.triggers n tr typed.triggers found) (reading_of s h) t) i) ∷ [])

    recurring-same : (asm : Bool) (c : Content) → is_known_content s c ≡ true → is_typed_content s asm c ≡ true → tables_in s s.lines ≡ pre ++ cons_option (line_table s c) post →
        recurrences s c ≡ map told_by (recurring s place c)
    recurring-same asm (Initial e) known is split = refl
    recurring-same asm (Safety e) known is split = refl
    recurring-same asm (Recurring e) known is split = λ i. (λ h t. sym (value_same s ordered h t e (state_known s e known).0) i) ∷ []
    recurring-same asm (PatternUse p es) known is split =
        of_pattern p es (slice_get s.patterns p) refl (and_parts (has_arguments s p es) (list_all (is_typed_state (scope_of_specification s) (length s.names)) es) is).0 split
    recurring-same asm (TriggerUse t) known is split = of_trigger t (slice_get s.triggers t) refl split

  -- ---- all lines

  one-same : (b : Bool) (line : ℕ) (fs : List (Run → ℕ → Bool)) (es : List Formula) → fs ≡ map told_by es →
      (if b then labelled_goals line fs else []) ≡ goals_in (game_of s) (if b then labelled line es else [])
  one-same true line fs es same = ap (labelled_goals line) same ∙ labelled-same line es
  one-same false line fs es same = refl

  lines-same : (player : Player) (ls : List Statement) (pre : List HiddenData) → list_all (λ (l : Statement). is_known_content s l.content) ls ≡ true → list_all (is_typed_line s) ls ≡ true → tables_in s s.lines ≡ pre ++ tables_in s ls →
      flat_map (λ (l : Statement). if recurs player l.role then labelled_goals l.number (recurrences s l.content) else []) ls ≡ goals_in (game_of s) (goals_for s player (length (past_operators s) + length pre) ls)
  lines-same player [] pre known is split = refl
  lines-same player (l ∷ ls) pre known is split =
      let knowns = and_parts (is_known_content s l.content) _ known in
      let parts = and_parts (is_typed_line s l) _ is in
      (λ i.
      one-same (recurs player l.role) l.number (recurrences s l.content) (recurring s (length (past_operators s) + length pre) l.content) (recurring-same pre (tables_in s ls) (is_assumption l.role) l.content knowns.0 parts.0 split) i
      ++ at (line_table s l.content) split (λ before now. lines-same player ls before knowns.1 parts.1 now) i)
      ∙ sym (map-append _ (goal_for s player (length (past_operators s) + length pre) l) (goals_for s player (next_table (length (past_operators s) + length pre) (table_for s l.content)) ls))
    where
      at : (o : Option HiddenData) → tables_in s s.lines ≡ pre ++ cons_option o (tables_in s ls) →
          ((before : List HiddenData) → tables_in s s.lines ≡ before ++ tables_in s ls →
          flat_map (λ (l : Statement). if recurs player l.role then labelled_goals l.number (recurrences s l.content) else []) ls ≡ goals_in (game_of s) (goals_for s player (length (past_operators s) + length before) ls)) →
          flat_map (λ (l : Statement). if recurs player l.role then labelled_goals l.number (recurrences s l.content) else []) ls ≡ goals_in (game_of s) (goals_for s player (next_table (length (past_operators s) + length pre) (option_map (entered_table s) o)) ls)
      at None split rest = rest pre split
      at (Some h) split rest =
          rest (pre ++ h ∷ []) (split ∙ sym (append_assoc pre (h ∷ []) (tables_in s ls)))
          ∙ ap (λ k. goals_in (game_of s) (goals_for s player k ls)) (sym (next_place (length (past_operators s)) pre h))

  goals_agree : (player : Player) → flat_map (λ (l : Statement). if recurs player l.role then labelled_goals l.number (recurrences s l.content) else []) s.lines ≡ goals_in (game_of s) (goals_for s player (length (past_operators s)) s.lines)
  goals_agree player =
      lines-same player s.lines [] (lines_known s typed) typed.lines refl
      ∙ (let none : length (past_operators s) + 0 ≡ length (past_operators s) = omega arith in ap (λ k. goals_in (game_of s) (goals_for s player k s.lines)) none)

  pub assumptions_agree : goals_of is_assumption s ≡ goals_in (game_of s) (game_of s).assume
  assumptions_agree = goals_agree Environment

  pub guarantees_agree : goals_of is_guarantee s ≡ goals_in (game_of s) (game_of s).goals
  guarantees_agree = goals_agree System
