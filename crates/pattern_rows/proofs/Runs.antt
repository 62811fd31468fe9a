-- The value and the entries of a pattern's table on a run.
use Rattle.std.proofs.Common.{◌≡◌, ℕ, zero, suc, ◌+◌, ◌*◌, ◌^◌, Bool, true, false, List, [], length, find, Some, option_map, unwrap_or, slice_get, get_or, sym, ap, ◌∙◌}
use Rattle.std.specs.Prelude.{slice_index}
use Rattle.std.specs.List.{list_all, position_or_len}
use Rattle.std.proofs.lemmas.Bool.{and_parts}
use Rattle.std.proofs.lemmas.List.{length-map}
use Rattle.std.proofs.lemmas.Option.{slice_get-map, get_or_from_slice_get}
use Rattle.spec_model.specs.declared.value.Value.TheVariants as value
use Rattle.spec_model.specs.Values.{Assignment, assignments_of}
use Rattle.spec_model.specs.Syntax.{Formula, Variable, PatternData}
use Rattle.spec_model.specs.Patterns.{own_at, pattern_holds}
use Rattle.spec_model.specs.Steps.{below}
use Rattle.spec_model.specs.Games.{letter_of}
use Rattle.spec_model.specs.WellTyped.{is_determined}
use Rattle.game_values.proofs.Lists.{length-below}
use Rattle.pattern_rows.specs.Patterns.{IsPattern}
use Rattle.pattern_rows.specs.Rows.{letters, may_begin, may_follow, goal_holds, by_cell, rows_of}
use Rattle.pattern_rows.specs.ToldRows.{is_told, are_told_after}
use Rattle.pattern_rows.specs.Laws.{cell_in, value_at_time, arguments_of, IsTableOf}
use Rattle.pattern_rows.proofs.Lines.{begins_with_any}
use Rattle.pattern_rows.proofs.Letters.{letter_at}
use Rattle.pattern_rows.proofs.Sizes.{determined_is}
use Rattle.pattern_rows.proofs.Cells.{at_cell, told_at, holds_at_place}

module _ (p : PatternData) (shaped : IsPattern p) (determined : is_determined p ≡ true) (bits : ℕ → List Bool) (long : (t : ℕ) → length (bits t) ≡ p.params) where
  abbrev owns : List Assignment
  owns = assignments_of p.domains

  abbrev follow : Assignment → Assignment → ℕ
  follow letter own = position_or_len (may_follow p letter own) owns

  told : (is_told (may_begin p) owns ≡ true) × (list_all (are_told_after p owns (letters p.params)) owns ≡ true)
  told = and_parts (is_told (may_begin p) owns) (list_all (are_told_after p owns (letters p.params)) owns) (sym (determined_is p) ∙ determined)

  many : length (rows_of p).atoms ≡ p.params
  many = length-map (below p.params) (λ k. Variable k) ∙ length-below p.params

  cell_is : (k : ℕ) (t : ℕ) → cell_in (rows_of p) k (bits t) ≡ k * 2 ^ p.params + letter_of (bits t)
  cell_is k t = ap (λ n. k * 2 ^ n + letter_of (bits t)) many

  pub value_is : (t : ℕ) → slice_get owns (value_at_time (rows_of p) bits t) ≡ Some (own_at p (arguments_of bits) t)
  value_is zero =
      told_at (may_begin p) owns told.0
      ∙ sym (ap (λ test. Some (unwrap_or (find test owns) [])) (λ i own. begins_with_any p (arguments_of bits 0) own shaped (length-map (bits 0) (λ b. value.Bool b) ∙ long 0) i))
  value_is (suc t) =
      let own = own_at p (arguments_of bits) t in
      let now = value_is t in
      let next : value_at_time (rows_of p) bits (suc t) ≡ follow (arguments_of bits t) own = ap (λ c. slice_index (rows_of p).next c) (cell_is (value_at_time (rows_of p) bits t) t) ∙ at_cell p follow (value_at_time (rows_of p) bits t) (bits t) own 0 (long t) now in
      let after = holds_at_place (are_told_after p owns (letters p.params)) owns (value_at_time (rows_of p) bits t) own told.1 now in
      let here = holds_at_place (λ letter. is_told (may_follow p letter own) owns) (letters p.params) (letter_of (bits t)) (arguments_of bits t) after (letter_at p.params (bits t) (long t)) in
      ap (λ k. slice_get owns k) next ∙ told_at (may_follow p (arguments_of bits t) own) owns here

  pub entry_is : (t part : ℕ) (goal : Formula) → slice_get p.goals part ≡ Some goal →
      get_or (get_or (rows_of p).tables part []) (cell_in (rows_of p) (value_at_time (rows_of p) bits t) (bits t)) false ≡ pattern_holds p (arguments_of bits) goal t
  entry_is t part goal is =
      let table : get_or (rows_of p).tables part [] ≡ by_cell p (goal_holds goal) = get_or_from_slice_get (rows_of p).tables part (by_cell p (goal_holds goal)) [] (slice_get-map (λ goal. by_cell p (goal_holds goal)) p.goals part ∙ ap (λ o. option_map (λ goal. by_cell p (goal_holds goal)) o) is) in
      (λ i. get_or (table i) (cell_is (value_at_time (rows_of p) bits t) t i) false)
      ∙ at_cell p (goal_holds goal) (value_at_time (rows_of p) bits t) (bits t) (own_at p (arguments_of bits) t) false (long t) (value_is t)

pub is_table : (p : PatternData) → IsPattern p → is_determined p ≡ true → IsTableOf p
is_table p shaped determined = record { value = λ bits long t. value_is p shaped determined bits long t; entry = λ bits long t part goal is. entry_is p shaped determined bits long t part goal is }
