-- The game of a well-typed specification has few goals: at most 4,097 lines give at most 1,000,001 each.
use Rattle.std.proofs.Common.{◌≡◌, ◌<◌, ◌≤◌, ◌*◌, ◌^◌, ℕ, suc, Bool, true, false, if◌then◌else◌, List, [], ◌∷◌, ◌++◌, length, map, Some, None, Option, slice_get, option_map, refl, ap, arith}
use Rattle.std.proofs.lemmas.List.{length-map, length-append}
use Rattle.spec_model.specs.Syntax.{Formula, Content, Initial, Safety, Recurring, PatternUse, TriggerUse, Statement, PatternData, TriggerData, Specification}
use Rattle.spec_model.specs.Sizes.{past_operators}
use Rattle.spec_model.specs.WellTyped.{WellTyped}
use Rattle.pattern_rows.specs.Rows.{rows_of, by_cell, goal_holds}
use Rattle.trigger_dfa.specs.Standings.{table_of}
use Rattle.hidden_game.specs.declared.player.Player.{Player}
use Rattle.hidden_game.specs.declared.player.Player.TheVariants.{Environment, System}
use Rattle.hidden_game.specs.GameOf.{entered_table, table_for, recurs, entries_from, entries_of, recurring, labelled_from, labelled, goal_for, next_table, goals_for, game_of}
use Rattle.hidden_game.proofs.Limits.{few_goals}

length-entries_from : (table part : ℕ) (ts : List (List Bool)) → length (entries_from table part ts) ≡ length ts
length-entries_from table part [] = refl
length-entries_from table part (t ∷ ts) = ap suc (length-entries_from table (suc part) ts)

length-labelled_from : (line part : ℕ) (es : List Formula) → length (labelled_from line part es) ≡ length es
length-labelled_from line part [] = refl
length-labelled_from line part (e ∷ es) = ap suc (length-labelled_from line (suc part) es)

length-labelled : (line : ℕ) (es : List Formula) → length (labelled line es) ≡ length es
length-labelled line [] = refl
length-labelled line (e ∷ []) = refl
length-labelled line (e ∷ f ∷ es) = length-labelled_from line 1 (e ∷ f ∷ es)

module _ (s : Specification) (typed : WellTyped s) where
  few_entries : (table : ℕ) (c : Content) → length (entries_of table (table_for s c)) ≤ 1_000_001
  few_entries table (Initial e) = omega arith
  few_entries table (Safety e) = omega arith
  few_entries table (Recurring e) = omega arith
  few_entries table (PatternUse p args) = by (slice_get s.patterns p) refl
    where
      by : (o : Option PatternData) → slice_get s.patterns p ≡ o → length (entries_of table (option_map (entered_table s) (option_map (λ (p : PatternData). record (rows_of p) { atoms = args }) o))) ≤ 1_000_001
      by None is = omega arith
      by (Some q) is =
          let few = few_goals s typed p q is in
          let many = length-map q.goals (λ (goal : Formula). by_cell q (goal_holds goal)) in
          let each = length-entries_from table 0 (map (λ (goal : Formula). by_cell q (goal_holds goal)) q.goals) in
          omega (arith, few, many, each)
  few_entries table (TriggerUse t) = by (slice_get s.triggers t)
    where
      by : (o : Option TriggerData) → length (entries_of table (option_map (entered_table s) (option_map table_of o))) ≤ 1_000_001
      by None = omega arith
      by (Some q) = omega arith

  few_recurring : (table : ℕ) (c : Content) → length (recurring s table c) ≤ 1_000_001
  few_recurring table (Recurring e) = omega arith
  few_recurring table (Initial e) = few_entries table (Initial e)
  few_recurring table (Safety e) = few_entries table (Safety e)
  few_recurring table (PatternUse p args) = few_entries table (PatternUse p args)
  few_recurring table (TriggerUse t) = few_entries table (TriggerUse t)

  few_of_line : (player : Player) (table : ℕ) (l : Statement) → length (goal_for s player table l) ≤ 1_000_001
  few_of_line player table l = at (recurs player l.role)
    where
      at : (b : Bool) → length (if b then labelled l.number (recurring s table l.content) else []) ≤ 1_000_001
      at true = let same = length-labelled l.number (recurring s table l.content) in let few = few_recurring table l.content in omega (arith, same, few)
      at false = omega arith

  few_of_lines : (player : Player) (table : ℕ) (ls : List Statement) → length (goals_for s player table ls) ≤ length ls * 1_000_001
  few_of_lines player table [] = omega arith
  few_of_lines player table (l ∷ ls) =
      let next = next_table table (table_for s l.content) in
      let both = length-append (goal_for s player table l) (goals_for s player next ls) in
      let one = few_of_line player table l in
      let more = few_of_lines player next ls in
      omega (arith, both, one, more)

  few : (player : Player) → length (goals_for s player (length (past_operators s)) s.lines) < 2 ^ 32
  few player = let all = few_of_lines player (length (past_operators s)) s.lines in omega (arith, all, typed.few_lines)

  pub goals_few : length (game_of s).goals < 2 ^ 32
  goals_few = few System

  pub asms_few : length (game_of s).assume < 2 ^ 32
  asms_few = few Environment
