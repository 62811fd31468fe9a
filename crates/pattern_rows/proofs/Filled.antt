-- The table of a pattern that is determined is whole, and patterns that are well typed have one.
use Rattle.std.proofs.Common.{◌≡◌, ℕ, zero, suc, ◌*◌, ◌^◌, ◌<◌, Bool, true, not, ◌&&◌, ◌==◌, nat_lt, nat_le, List, [], ◌∷◌, length, map, flat_map, find, Some, unwrap_or, slice_get, refl, sym, ap, ◌∙◌, arith}
use Rattle.std.specs.List.{list_all, position_or_len}
use Rattle.std.proofs.lemmas.Bool.{and_parts, and_from}
use Rattle.std.proofs.lemmas.Bool.Decides.{nat_tests}
use Rattle.std.proofs.lemmas.List.{length-map}
use Rattle.std.proofs.lemmas.List.Folds.{list_all-append}
use borrow.Author.Tests.{eq-eqb}
use Rattle.spec_model.specs.Values.{Assignment, assignments_of}
use Rattle.spec_model.specs.Syntax.{Variable, PatternData}
use Rattle.spec_model.specs.Sizes.{domain_size, product}
use Rattle.spec_model.specs.Steps.{below}
use Rattle.spec_model.specs.WellMade.{cell_count}
use Rattle.spec_model.specs.WellTyped.{is_domain_of, is_first_line, is_step_line, is_determined, is_typed_pattern}
use Rattle.game_values.proofs.Lists.{length-below}
use Rattle.game_values.proofs.Typed.{all_weaker}
use Rattle.game_states.proofs.ChoicePlaces.{length-grid}
use Rattle.pattern_rows.specs.Patterns.{is_goal_line}
use Rattle.pattern_rows.specs.Rows.{letters, may_begin, may_follow, goal_holds, by_cell, rows_of}
use Rattle.pattern_rows.specs.ToldRows.{is_told, are_told_after}
use Rattle.pattern_rows.specs.Laws.{HasTable, is_filled}
use Rattle.pattern_rows.proofs.Letters.{length-letters}
use Rattle.pattern_rows.proofs.Sizes.{determined_is}
use Rattle.pattern_rows.proofs.Cells.{told_at}

-- ---- lists

there_below : (xs : List Assignment) (k : ℕ) (x : Assignment) → slice_get xs k ≡ Some x → k < length xs
there_below [] k x is = absurd (cc)
there_below (y ∷ xs) zero x is = omega arith
there_below (y ∷ xs) (suc k) x is = let rest = there_below xs k x is in omega (arith, rest)

told_below : (test : Assignment → Bool) (xs : List Assignment) → is_told test xs ≡ true → nat_lt (position_or_len test xs) (length xs) ≡ true
told_below test xs told = let below = there_below xs (position_or_len test xs) (unwrap_or (find test xs) []) (told_at test xs told) in grind (arith, nat_tests)

module _ {X Y : Type 0} (p : Y → Bool) where
  all_flat : (f : X → List Y) (xs : List X) → list_all (λ x. list_all p (f x)) xs ≡ true → list_all p (flat_map f xs) ≡ true
  all_flat f [] all = refl
  all_flat f (x ∷ xs) all =
      let parts = and_parts (list_all p (f x)) (list_all (λ x. list_all p (f x)) xs) all in
      list_all-append p (f x) (flat_map f xs) ∙ and_from _ _ parts.0 (all_flat f xs parts.1)

  all_mapped : (f : X → Y) (xs : List X) → list_all (λ x. p (f x)) xs ≡ true → list_all p (map f xs) ≡ true
  all_mapped f [] all = refl
  all_mapped f (x ∷ xs) all = let parts = and_parts (p (f x)) (list_all (λ x. p (f x)) xs) all in and_from _ _ parts.0 (all_mapped f xs parts.1)

each_passes : {X : Type 0} (p : X → Bool) → ((x : X) → p x ≡ true) → (xs : List X) → list_all p xs ≡ true
each_passes p each [] = refl
each_passes p each (x ∷ xs) = and_from _ _ (each x) (each_passes p each xs)

-- ---- the table

module _ (p : PatternData) where
  abbrev owns : List Assignment
  owns = assignments_of p.domains

  cells : {X : Type 0} (f : Assignment → Assignment → X) → length (by_cell p f) ≡ cell_count (rows_of p)
  cells f =
      length-grid (λ own. map (λ letter. f letter own) (letters p.params)) (2 ^ p.params) (λ own. length-map (letters p.params) (λ letter. f letter own) ∙ length-letters p.params) owns
      ∙ ap (λ n. length owns * 2 ^ n) (sym (length-map (below p.params) (λ k. Variable k) ∙ length-below p.params))

  all_next_below : list_all (are_told_after p owns (letters p.params)) owns ≡ true → list_all (λ v. nat_lt v (length owns)) (rows_of p).next ≡ true
  all_next_below told =
      all_flat (λ v. nat_lt v (length owns)) (λ own. map (λ letter. position_or_len (may_follow p letter own) owns) (letters p.params)) owns
      (all_weaker (are_told_after p owns (letters p.params)) (λ own. list_all (λ v. nat_lt v (length owns)) (map (λ letter. position_or_len (may_follow p letter own) owns) (letters p.params)))
      (λ own here.
      all_mapped (λ v. nat_lt v (length owns)) (λ letter. position_or_len (may_follow p letter own) owns) (letters p.params)
      (all_weaker (λ letter. is_told (may_follow p letter own) owns) (λ letter. nat_lt (position_or_len (may_follow p letter own) owns) (length owns)) (λ letter one. told_below (may_follow p letter own) owns one) (letters p.params) here))
      owns told)

  pub filled : is_determined p ≡ true → is_filled (rows_of p) ≡ true
  filled determined =
      let told = and_parts (is_told (may_begin p) owns) (list_all (are_told_after p owns (letters p.params)) owns) (sym (determined_is p) ∙ determined) in
      and_from _ _ (told_below (may_begin p) owns told.0)
      (and_from _ _ (all_next_below told.1)
      (and_from _ _ (eq-eqb _ _ (cells (λ letter own. position_or_len (may_follow p letter own) owns)))
      (all_mapped (λ table. length table == cell_count (rows_of p)) (λ goal. by_cell p (goal_holds goal)) p.goals (each_passes (λ goal. length (by_cell p (goal_holds goal)) == cell_count (rows_of p)) (λ goal. eq-eqb _ _ (cells (goal_holds goal))) p.goals))))

-- ---- patterns that are well typed

pub typed_has_table : (names : ℕ) (p : PatternData) → is_typed_pattern names p ≡ true → HasTable p
typed_has_table names p typed =
    let one = and_parts (nat_le p.params 8) _ typed in
    let two = and_parts (list_all (is_domain_of names) p.domains) _ one.1 in
    let three = and_parts (nat_le (product (map domain_size p.domains)) 64) _ two.1 in
    let four = and_parts (list_all (is_first_line p names) p.first) _ three.1 in
    let five = and_parts (list_all (is_step_line p names) p.step) _ four.1 in
    let six = and_parts (list_all (is_goal_line p names) p.goals) (is_determined p) five.1 in
    record {
      pattern = record { names = names; domains = two.0; first = four.0; step = five.0; goals = six.0 };
      narrow = λ i. not (one.0 i && three.0 i);
      determined = six.1;
    }
