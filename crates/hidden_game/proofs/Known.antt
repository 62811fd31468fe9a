-- What is known of the lines of a well-typed specification: their formulas have kinds, their operators have tables, and their
-- own tables are whole.
use Rattle.std.proofs.Common.{◌≡◌, ◌*◌, ◌^◌, Bool, true, false, not, cond, ◌&&◌, ◌||◌, ◌==◌, nat_lt, nat_le, List, [], ◌∷◌, ◌++◌, length, flat_map, filter, Option, Some, None, option_map, unwrap_or, slice_get, refl, sym, ap, ◌∙◌}
use Rattle.std.specs.List.{list_all}
use Rattle.std.proofs.lemmas.Bool.{and_parts, and_from, eqb-true, eq-eqb}
use Rattle.std.proofs.lemmas.List.{length-map}
use Rattle.std.proofs.lemmas.List.Folds.{list_all-append}
use Rattle.spec_model.specs.Syntax.{Formula, Constant, Variable, NextOf, Negation, Conjunction, Disjunction, Implication, Equivalence, Comparison, Sum, Difference, Product, Remainder, PastOf, Entry, Formulas, Content, Initial, Safety, Recurring, PatternUse, TriggerUse, Regular, PatternData, TriggerData, Statement, Specification}
use Rattle.spec_model.specs.Moves.{is_assumption, has_next, some_has_next}
use Rattle.spec_model.specs.Sizes.{past_trees, past_operators, atoms_of, formulas_of, distinct, same_formula}
use Rattle.spec_model.specs.Steps.{below, is_output_variable}
use Rattle.spec_model.specs.Games.{HiddenData}
use Rattle.spec_model.specs.Typing.{kind_of, is_truth}
use Rattle.spec_model.specs.TriggerStates.{trigger_atoms, trigger_states}
use Rattle.spec_model.specs.WellTyped.{is_nested_well, is_typed, is_typed_state, scope_of_specification, has_arguments, reads_some, shifts_some, is_typed_content, is_typed_line, is_typed_pattern, is_typed_side, is_typed_trigger, repeats_well, positions_in, WellTyped}
use Rattle.game_values.proofs.Lists.{length-below}
use Rattle.past_bits.proofs.Plain.{is_plain, are_plain, typed_plain}
use Rattle.past_bits.proofs.Ordered.{covers, trees_in_line, AreOrdered, are_ordered}
use Rattle.past_bits.proofs.Typed.{lines_plain}
use Rattle.past_bits.proofs.Agreeing.{both_covered}
use Rattle.pattern_rows.specs.Rows.{rows_of}
use Rattle.pattern_rows.specs.Laws.{is_filled}
use Rattle.pattern_rows.proofs.Cells.{holds_at_place}
use Rattle.pattern_rows.proofs.Filled.{filled, typed_has_table}
use Rattle.trigger_dfa.specs.Standings.{value_of, table_of}
use Rattle.trigger_dfa.proofs.FilledTables.{some_value, all_cells, nexts_below}
use Rattle.game_play.proofs.OutputReads.{not_false, or_none}
use Rattle.hidden_game.specs.GameOf.{line_table}

-- ---- formulas

both_plain : (a b c d e f : Bool) → (a && b) ≡ true → (c || d) ≡ false → (a ≡ true → c ≡ false → e ≡ true) → (b ≡ true → d ≡ false → f ≡ true) → (e && f) ≡ true
both_plain a b c d e f plain none first second =
    let parts = and_parts a b plain in
    let nones = or_none c d none in
    and_from e f (first parts.0 nones.0) (second parts.1 nones.1)

-- a formula that has no `next` may stand where none may
mutual
  plain_state : (e : Formula) → is_plain true e ≡ true → has_next e ≡ false → is_plain false e ≡ true
  plain_state (Constant v) plain none = refl
  plain_state (Variable k) plain none = refl
  plain_state (NextOf e) plain none = sym none
  plain_state (Negation e) plain none = plain_state e plain none
  plain_state (Conjunction es) plain none = plain_states es plain none
  plain_state (Disjunction es) plain none = plain_states es plain none
  plain_state (Implication a b) plain none = both_plain _ _ _ _ _ _ plain none (plain_state a) (plain_state b)
  plain_state (Equivalence a b) plain none = both_plain _ _ _ _ _ _ plain none (plain_state a) (plain_state b)
  plain_state (Comparison c a b) plain none = both_plain _ _ _ _ _ _ plain none (plain_state a) (plain_state b)
  plain_state (Sum a b) plain none = both_plain _ _ _ _ _ _ plain none (plain_state a) (plain_state b)
  plain_state (Difference a b) plain none = both_plain _ _ _ _ _ _ plain none (plain_state a) (plain_state b)
  plain_state (Product a b) plain none = both_plain _ _ _ _ _ _ plain none (plain_state a) (plain_state b)
  plain_state (Remainder a n) plain none = plain_state a plain none
  plain_state (PastOf op es) plain none = plain
  plain_state (Entry h n) plain none = plain

  plain_states : (es : Formulas) → are_plain true es ≡ true → some_has_next es ≡ false → are_plain false es ≡ true
  plain_states Formulas.none plain none = refl
  plain_states (Formulas.one_more e es) plain none = both_plain _ _ _ _ _ _ plain none (plain_state e) (plain_states es)

module _ (s : Specification) where
  -- it is typed, and each past operator in it has a table
  abbrev pub is_known : Formula → Bool
  is_known e = is_typed (scope_of_specification s) (length s.names) e && covers (past_operators s) (past_trees e)

  -- and it has no `next`
  abbrev pub is_known_state : Formula → Bool
  is_known_state e = is_known e && not (has_next e)

  -- what is used of a known formula
  pub known_typed : (e : Formula) → is_known e ≡ true → is_typed (scope_of_specification s) (length s.names) e ≡ true
  known_typed e known = (and_parts (is_typed (scope_of_specification s) (length s.names) e) (covers (past_operators s) (past_trees e)) known).0

  pub known_plain : (e : Formula) → is_known e ≡ true → is_plain true e ≡ true
  known_plain e known = typed_plain (scope_of_specification s) (length s.names) e (known_typed e known)

  pub known_nested : (e : Formula) → is_known e ≡ true → is_nested_well (length s.names) false false e ≡ true
  known_nested e known = (and_parts (is_truth (kind_of (scope_of_specification s) e)) (is_nested_well (length s.names) false false e) (known_typed e known)).1

  pub known_truth : (e : Formula) → is_known e ≡ true → is_truth (kind_of (scope_of_specification s) e) ≡ true
  known_truth e known = (and_parts (is_truth (kind_of (scope_of_specification s) e)) (is_nested_well (length s.names) false false e) (known_typed e known)).0

  pub known_covered : (e : Formula) → is_known e ≡ true → covers (past_operators s) (past_trees e) ≡ true
  known_covered e known = (and_parts (is_typed (scope_of_specification s) (length s.names) e) (covers (past_operators s) (past_trees e)) known).1

  pub state_known : (e : Formula) → is_known_state e ≡ true → (is_known e ≡ true) × (has_next e ≡ false)
  state_known e known = let parts = and_parts (is_known e) (not (has_next e)) known in (parts.0, not_false (has_next e) parts.1)

  pub state_plain : (e : Formula) → is_known_state e ≡ true → is_plain false e ≡ true
  state_plain e known = let parts = state_known e known in plain_state e (known_plain e parts.0) parts.1

  -- ---- lines

  -- the table is whole, and its atoms are known
  abbrev pub is_known_table : HiddenData → Bool
  is_known_table h = is_filled h && list_all is_known_state h.atoms

  abbrev pub is_known_or_none : Option HiddenData → Bool
  is_known_or_none None = true
  is_known_or_none (Some h) = is_known_table h

  abbrev pub is_known_content : Content → Bool
  is_known_content (Initial e) = is_known_state e
  is_known_content (Safety e) = is_known e
  is_known_content (Recurring e) = is_known_state e
  is_known_content c = is_known_or_none (line_table s c)

  -- from what is typed

  one_known : (e : Formula) → is_typed (scope_of_specification s) (length s.names) e ≡ true → covers (past_operators s) (flat_map past_trees (e ∷ [])) ≡ true → is_known e ≡ true
  one_known e typed has = and_from _ _ typed (both_covered (past_operators s) (past_trees e) [] has).0

  one_state_known : (e : Formula) → is_typed_state (scope_of_specification s) (length s.names) e ≡ true → covers (past_operators s) (flat_map past_trees (e ∷ [])) ≡ true → is_known_state e ≡ true
  one_state_known e typed has =
      let parts = and_parts (is_typed (scope_of_specification s) (length s.names) e) (not (has_next e)) typed in
      and_from _ _ (one_known e parts.0 has) parts.1

  states_known : (es : List Formula) → list_all (is_typed_state (scope_of_specification s) (length s.names)) es ≡ true → covers (past_operators s) (flat_map past_trees es) ≡ true → list_all is_known_state es ≡ true
  states_known [] typed has = refl
  states_known (e ∷ es) typed has =
      let parts = and_parts (is_typed_state (scope_of_specification s) (length s.names) e) (list_all (is_typed_state (scope_of_specification s) (length s.names)) es) typed in
      let typed_one = and_parts (is_typed (scope_of_specification s) (length s.names) e) (not (has_next e)) parts.0 in
      let there = both_covered (past_operators s) (past_trees e) (flat_map past_trees es) has in
      and_from _ _ (and_from _ _ (and_from _ _ typed_one.0 there.0) typed_one.1) (states_known es parts.1 there.1)

  -- ---- a pattern's table

  -- a whole table with as many other atoms is whole
  filled_with : (h : HiddenData) (es : List Formula) → length es ≡ length h.atoms → is_filled h ≡ true → is_filled (record h { atoms = es }) ≡ true
  filled_with h es many whole =
      ap (λ n. nat_lt h.first h.values && (list_all (λ v. nat_lt v h.values) h.next && (length h.next == h.values * 2 ^ n && list_all (λ table. length table == h.values * 2 ^ n) h.tables))) many ∙ whole

  pattern_known : (args : List Formula) (o : Option PatternData) → ((p : PatternData) → o ≡ Some p → is_typed_pattern (length s.names) p ≡ true) →
      unwrap_or (option_map (λ (p : PatternData). p.params == length args) o) false ≡ true → list_all is_known_state args ≡ true →
      is_known_or_none (option_map (λ (p : PatternData). record (rows_of p) { atoms = args }) o) ≡ true
  pattern_known args None each many known = refl
  pattern_known args (Some p) each many known =
      let as_many = sym (eqb-true p.params (length args) many) ∙ sym (length-map (below p.params) (λ k. Variable k) ∙ length-below p.params) in
      and_from _ _ (filled_with (rows_of p) args as_many (filled p (typed_has_table (length s.names) p (each p refl)).determined)) known

  -- ---- a trigger's table

  filter_passes : (test keep : Formula → Bool) (es : List Formula) → list_all test es ≡ true → list_all test (filter keep es) ≡ true
  filter_passes test keep [] all = refl
  filter_passes test keep (e ∷ es) all = let parts = and_parts (test e) (list_all test es) all in at (keep e) parts.0 (filter_passes test keep es parts.1)
    where
      at : (b : Bool) → test e ≡ true → list_all test (filter keep es) ≡ true → list_all test (cond b (e ∷ filter keep es) (filter keep es)) ≡ true
      at true one rest = and_from _ _ one rest
      at false one rest = rest

  distinct_passes : (test : Formula → Bool) (es : List Formula) → list_all test es ≡ true → list_all test (distinct es) ≡ true
  distinct_passes test [] all = refl
  distinct_passes test (e ∷ es) all =
      let parts = and_parts (test e) (list_all test es) all in
      and_from _ _ parts.0 (filter_passes test (λ f. not (same_formula e f)) (distinct es) (distinct_passes test es parts.1))

  side_typed : (r : Regular) → is_typed_side s r ≡ true → list_all (is_typed_state (scope_of_specification s) (length s.names)) (atoms_of r) ≡ true
  side_typed r is =
      let first = and_parts (repeats_well r) (nat_le (positions_in r) 64 && list_all (is_typed_state (scope_of_specification s) (length s.names)) (atoms_of r)) is in
      (and_parts (nat_le (positions_in r) 64) (list_all (is_typed_state (scope_of_specification s) (length s.names)) (atoms_of r)) first.1).1

  brackets_typed : (tr : TriggerData) → is_typed_trigger s tr ≡ true → list_all (is_typed_state (scope_of_specification s) (length s.names)) (atoms_of tr.cause ++ atoms_of tr.effect) ≡ true
  brackets_typed tr is =
      let limits = nat_le (length (trigger_atoms tr)) 8 && nat_le (trigger_states tr) 256 in
      let first = and_parts (is_typed_side s tr.cause) (is_typed_side s tr.effect && limits) is in
      let second = and_parts (is_typed_side s tr.effect) limits first.1 in
      list_all-append (is_typed_state (scope_of_specification s) (length s.names)) (atoms_of tr.cause) (atoms_of tr.effect) ∙ and_from _ _ (side_typed tr.cause first.0) (side_typed tr.effect second.0)

  trigger_filled : (tr : TriggerData) → is_filled (table_of tr) ≡ true
  trigger_filled tr =
      and_from _ _ (some_value tr)
      (and_from _ _ (nexts_below tr)
      (and_from _ _ (eq-eqb _ _ (all_cells tr (value_of tr))) (and_from _ _ (eq-eqb _ _ (all_cells tr (λ t. not t.waits))) refl)))

  trigger_known : (o : Option TriggerData) → ((tr : TriggerData) → o ≡ Some tr → is_typed_trigger s tr ≡ true) →
      covers (past_operators s) (flat_map past_trees (unwrap_or (option_map (λ (tr : TriggerData). atoms_of tr.cause ++ atoms_of tr.effect) o) [])) ≡ true →
      is_known_or_none (option_map table_of o) ≡ true
  trigger_known None each has = refl
  trigger_known (Some tr) each has =
      and_from _ _ (trigger_filled tr)
      (distinct_passes is_known_state (atoms_of tr.cause ++ atoms_of tr.effect) (states_known (atoms_of tr.cause ++ atoms_of tr.effect) (brackets_typed tr (each tr refl)) has))

  -- ---- all lines

  module _ (typed : WellTyped s) where
    content_known : (asm : Bool) (c : Content) → is_typed_content s asm c ≡ true → covers (past_operators s) (flat_map past_trees (formulas_of s c)) ≡ true → is_known_content c ≡ true
    content_known asm (Initial e) is has =
        one_state_known e (and_parts (is_typed_state (scope_of_specification s) (length s.names) e) (not (asm && reads_some (is_output_variable s.variables) e)) is).0 has
    content_known asm (Safety e) is has =
        one_known e (and_parts (is_typed (scope_of_specification s) (length s.names) e) (not (asm && shifts_some (is_output_variable s.variables) e)) is).0 has
    content_known asm (Recurring e) is has = one_state_known e is has
    content_known asm (PatternUse p es) is has =
        let parts = and_parts (has_arguments s p es) (list_all (is_typed_state (scope_of_specification s) (length s.names)) es) is in
        pattern_known es (slice_get s.patterns p) (λ q found. holds_at_place (is_typed_pattern (length s.names)) s.patterns p q typed.patterns found) parts.0 (states_known es parts.1 has)
    content_known asm (TriggerUse t) is has = trigger_known (slice_get s.triggers t) (λ tr found. holds_at_place (is_typed_trigger s) s.triggers t tr typed.triggers found) has

    each_known : (ls : List Statement) → list_all (is_typed_line s) ls ≡ true → covers (past_operators s) (flat_map (trees_in_line s) ls) ≡ true → list_all (λ (l : Statement). is_known_content l.content) ls ≡ true
    each_known [] is has = refl
    each_known (l ∷ ls) is has =
        let parts = and_parts (is_typed_line s l) (list_all (is_typed_line s) ls) is in
        let there = both_covered (past_operators s) (trees_in_line s l) (flat_map (trees_in_line s) ls) has in
        and_from _ _ (content_known (is_assumption l.role) l.content parts.0 there.0) (each_known ls parts.1 there.1)

    pub operators_ordered : AreOrdered s
    operators_ordered = are_ordered s (lines_plain s typed)

    pub lines_known : list_all (λ (l : Statement). is_known_content l.content) s.lines ≡ true
    lines_known = each_known s.lines typed.lines operators_ordered.all
