-- With fewer guarantees the game of a specification has no more states.
use Rattle.std.proofs.Common.{◌≡◌, ℕ, zero, suc, ◌*◌, ◌^◌, ◌≤◌, Bool, true, false, ◌&&◌, nat_lt, cond, List, [], ◌∷◌, ◌++◌, filter, length, map, Option, Some, None, refl, sym, ◌∙◌, ap, subst, arith}
use Rattle.std.proofs.Math.Nat.{pow-suc, mul-le-mul_left, mul-le-mul_right}
use Rattle.std.proofs.lemmas.Bool.{and_parts, false≢true}
use Rattle.std.specs.List.{list_all, cons_option}
use borrow.Author.Tests.{ltb-true}
use Rattle.spec_model.specs.Syntax.{Formula, PastOf, Content, Initial, Safety, Recurring, PatternUse, TriggerUse, Statement, Specification}
use Rattle.spec_model.specs.Cores.{stays, with_guarantees}
use Rattle.spec_model.specs.Games.{HiddenData, inputs_of, outputs_of}
use Rattle.spec_model.specs.Steps.{hidden_values, states_of}
use Rattle.spec_model.specs.Sizes.{product, past_operators, distinct, past_trees_of_all}
use Rattle.spec_model.specs.WellTyped.{WellTyped}
use Rattle.spec_model.proofs.Restricted.{fewer_distinct, same_trees, trees_of}
use Rattle.game_states.proofs.StateNumbers.{length-states}
use Rattle.past_bits.specs.Bits.{table_of, tables_of}
use Rattle.past_bits.proofs.Plain.{is_plain}
use Rattle.past_bits.proofs.Ordered.{covers, is_in_order}
use Rattle.pattern_rows.specs.Laws.{is_filled}
use Rattle.hidden_game.specs.GameOf.{line_table, entered_table, hidden_of, game_of}
use Rattle.hidden_game.proofs.Known.{is_known_state, is_known_table, is_known_or_none, is_known_content, operators_ordered, lines_known}
use Rattle.hidden_game.proofs.LineValues.{tables_in, table_known}
use Rattle.hidden_game.proofs.StateCounts.{values_in, times_fit, operators_fit, hidden_product}

-- ---- powers of 2

one_le_power : (n : ℕ) → 1 ≤ 2 ^ n
one_le_power zero = omega arith
one_le_power (suc n) = let rest = one_le_power n in let twice = pow-suc 2 n in omega (arith, rest, twice)

power_grows : (m n : ℕ) → m ≤ n → 2 ^ m ≤ 2 ^ n
power_grows zero n less = one_le_power n
power_grows (suc m) zero less = absurd (omega arith)
power_grows (suc m) (suc n) less = let rest = power_grows m n (omega arith) in let one = pow-suc 2 m in let two = pow-suc 2 n in omega (arith, rest, one, two)

-- ---- tables

-- each operator's table has two values
operators_counted : (ops pre post : List Formula) → is_in_order pre post ≡ true → product (values_in (map (table_of ops) post)) ≡ 2 ^ length post
operators_counted ops pre [] order = refl
operators_counted ops pre (PastOf op es ∷ post) order =
    let first = and_parts (is_plain false (PastOf op es)) (covers pre (past_trees_of_all es) && is_in_order (pre ++ PastOf op es ∷ []) post) order in
    let second = and_parts (covers pre (past_trees_of_all es)) (is_in_order (pre ++ PastOf op es ∷ []) post) first.1 in
    let rest = operators_counted ops (pre ++ PastOf op es ∷ []) post second.1 in
    let twice = pow-suc 2 (length post) in
    omega (arith, rest, twice)
operators_counted ops pre (_ ∷ post) order = absurd (false≢true order)

entered_values : (s : Specification) (hs : List HiddenData) → values_in (map (entered_table s) hs) ≡ values_in hs
entered_values s [] = refl
entered_values s (h ∷ hs) = ap (λ ns. h.values ∷ ns) (entered_values s hs)

module _ (s : Specification) (kept : List ℕ) where
  abbrev part : Specification
  part = with_guarantees s kept

  pub fewer_operators : length (past_operators part) ≤ length (past_operators s)
  fewer_operators =
      let stayed : List Statement = filter (stays kept) s.lines in
      let same = ap (λ fs. length (distinct fs)) (same_trees s stayed stayed) in
      let trees = fewer_distinct (trees_of s stayed s) (stays kept) s.lines in
      omega arith

  table_same : (c : Content) → line_table part c ≡ line_table s c
  table_same (Initial e) = refl
  table_same (Safety e) = refl
  table_same (Recurring e) = refl
  table_same (PatternUse p es) = refl
  table_same (TriggerUse t) = refl

  some_value : (h : HiddenData) → is_known_table s h ≡ true → 1 ≤ h.values
  some_value h known =
      let both = and_parts (is_filled h) (list_all (is_known_state s) h.atoms) known in
      let below = ltb-true h.first h.values (and_parts (nat_lt h.first h.values) _ both.0).0 in
      omega (arith, below)

  lines_fewer : (ls : List Statement) → list_all (λ (l : Statement). is_known_content s l.content) ls ≡ true → product (values_in (tables_in part (filter (stays kept) ls))) ≤ product (values_in (tables_in s ls))
  lines_fewer [] known = omega arith
  lines_fewer (l ∷ ls) known =
      let parts = and_parts (is_known_content s l.content) _ known in
      at (stays kept l) (line_table s l.content) (table_same l.content) (table_known s l.content parts.0) (lines_fewer ls parts.1)
    where
      at : (b : Bool) (o : Option HiddenData) → line_table part l.content ≡ o → is_known_or_none s o ≡ true → product (values_in (tables_in part (filter (stays kept) ls))) ≤ product (values_in (tables_in s ls)) →
          product (values_in (tables_in part (cond b (l ∷ filter (stays kept) ls) (filter (stays kept) ls)))) ≤ product (values_in (cons_option o (tables_in s ls)))
      at true None same one rest = subst (λ (o : Option HiddenData). product (values_in (cons_option o (tables_in part (filter (stays kept) ls)))) ≤ product (values_in (tables_in s ls))) (sym same) rest
      at true (Some h) same one rest =
          subst (λ (o : Option HiddenData). product (values_in (cons_option o (tables_in part (filter (stays kept) ls)))) ≤ h.values * product (values_in (tables_in s ls))) (sym same) (mul-le-mul_left h.values rest)
      at false None same one rest = rest
      at false (Some h) same one rest = let more = mul-le-mul_right (product (values_in (tables_in s ls))) (some_value h one) in omega (arith, more, rest)

  module _ (typed : WellTyped s) where
    hidden_fewer : length (hidden_values (hidden_of part)) ≤ length (hidden_values (hidden_of s))
    hidden_fewer =
        let ops = past_operators s in
        let mine = operators_fit (past_operators part) (past_operators part) in
        let grows = power_grows (length (past_operators part)) (length ops) fewer_operators in
        let all = operators_counted ops [] ops (operators_ordered s typed).order in
        let front : product (values_in (tables_of (past_operators part))) ≤ product (values_in (tables_of ops)) = omega (arith, mine, grows, all) in
        let back = lines_fewer s.lines (lines_known s typed) in
        let both = times_fit _ _ _ _ front back in
        let here = hidden_product part ∙ ap (λ ns. product (values_in (tables_of (past_operators part))) * product ns) (entered_values part (tables_in part part.lines)) in
        let there = hidden_product s ∙ ap (λ ns. product (values_in (tables_of ops)) * product ns) (entered_values s (tables_in s s.lines)) in
        omega (arith, both, here, there)

    pub part_states : length (states_of (game_of part)) ≤ length (states_of (game_of s))
    part_states =
        let here = length-states (game_of part) in
        let there = length-states (game_of s) in
        let more = mul-le-mul_right (length (inputs_of (game_of s)) * length (outputs_of (game_of s))) hidden_fewer in
        omega (arith, here, there, more)
