-- The table of a trigger is whole, and the triggers of a well-typed specification are read and have few values.
use Rattle.std.proofs.Common.{◌≡◌, ℕ, suc, ◌*◌, ◌^◌, ◌≤◌, Bool, true, false, not, cond, ◌&&◌, nat_lt, nat_le, List, [], ◌∷◌, Some, None, filter, flat_map, map, length, refl, sym, ◌∙◌, ap, arith, length-append}
use Rattle.std.specs.List.{list_all}
use Rattle.std.proofs.lemmas.Bool.{and_parts, and_from, lt-ltb, leb-true}
use Rattle.std.proofs.lemmas.List.{length-map}
use Rattle.std.proofs.lemmas.List.Folds.{list_all-append}
use Rattle.spec_model.specs.Syntax.{Regular, Atom, Sequence, Choice, Repetition, Regulars, TriggerData, Specification}
use Rattle.spec_model.specs.Meaning.{Reading}
use Rattle.spec_model.specs.Triggers.{is_pending}
use Rattle.spec_model.specs.TriggerStates.{Positions, letters, said_by, has_last, side_states, trigger_atoms, trigger_states}
use Rattle.spec_model.specs.WellTyped.{has_some, repeats_well, each_repeats_well, positions_in, is_typed_state, scope_of_specification, is_typed_side, is_typed_trigger}
use Rattle.spec_model.specs.Sizes.{atoms_of}
use Rattle.trigger_dfa.specs.Standings.{Standing, at_set, side_of, standing_after, all_sets, value_sets, side_standings, standings, value_of, by_standing, table_of}
use Rattle.trigger_dfa.specs.Along.{entry_along}
use Rattle.trigger_dfa.specs.Laws.{is_readable, are_readable}
use Rattle.trigger_dfa.proofs.Letters.{length_blocks, length-letters}
use Rattle.trigger_dfa.proofs.Tables.{placed, goal_is_not_pending}
use Rattle.trigger_dfa.proofs.TableRows.{map_by}

-- ---- the table

all_mapped : {X : Type 0} (p : X → Bool) (xs : List X) → list_all (λ (b : Bool). b) (map p xs) ≡ list_all p xs
all_mapped p [] = refl
all_mapped p (x ∷ xs) = ap (λ b. p x && b) (all_mapped p xs)

all_true : {X : Type 0} (xs : List X) → list_all (λ (b : Bool). b) (map (λ x. true) xs) ≡ true
all_true [] = refl
all_true (x ∷ xs) = all_true xs

all_flat : {X : Type 0} (f : X → List Bool) (each : (x : X) → list_all (λ (b : Bool). b) (f x) ≡ true) (xs : List X) → list_all (λ (b : Bool). b) (flat_map f xs) ≡ true
all_flat f each [] = refl
all_flat f each (x ∷ xs) = list_all-append (λ (b : Bool). b) (f x) (flat_map f xs) ∙ and_from _ _ (each x) (all_flat f each xs)

module _ (tr : TriggerData) where
  pub some_value : nat_lt 0 (length (standings tr)) ≡ true
  some_value = lt-ltb 0 (length (standings tr)) (omega arith)

  -- it has something for each value and letter
  pub all_cells : {X : Type 0} (f : Standing → X) → length (by_standing tr f) ≡ length (standings tr) * 2 ^ length (trigger_atoms tr)
  all_cells f =
      length_blocks (λ s. map (λ letter. f (standing_after tr (said_by (trigger_atoms tr) letter) s)) (letters (length (trigger_atoms tr)))) (2 ^ length (trigger_atoms tr))
      (λ s. length-map (letters (length (trigger_atoms tr))) (λ letter. f (standing_after tr (said_by (trigger_atoms tr) letter) s)) ∙ length-letters (length (trigger_atoms tr)))
      (standings tr)

  -- each next value is one of its values
  pub nexts_below : list_all (λ v. nat_lt v (length (standings tr))) (table_of tr).next ≡ true
  nexts_below =
      sym (all_mapped (λ v. nat_lt v (length (standings tr))) (by_standing tr (value_of tr)))
      ∙ (ap (list_all (λ (b : Bool). b))
      (map_by tr (value_of tr) (λ v. nat_lt v (length (standings tr))) (λ s. true) (λ s valued. lt-ltb (value_of tr s) (length (standings tr)) (placed tr s valued).0))
      ∙ all_flat (λ s. map (λ letter. true) (letters (length (trigger_atoms tr)))) (λ s. all_true (letters (length (trigger_atoms tr)))) (standings tr))

  -- ---- how many values

  filter_short : (p : Positions → Bool) (xs : List Positions) → length (filter p xs) ≤ length xs
  filter_short p [] = omega arith
  filter_short p (x ∷ xs) = at (p x) (filter_short p xs)
    where
      at : (b : Bool) → length (filter p xs) ≤ length xs → length (cond b (x ∷ filter p xs) (filter p xs)) ≤ suc (length xs)
      at true rest = omega (arith, rest)
      at false rest = omega (arith, rest)

  side_short : (waits : Bool) → length (side_standings tr waits) ≤ side_states (trigger_atoms tr) (side_of tr waits)
  side_short waits =
      let fewer = filter_short (λ set. not (has_last (side_of tr waits) set)) (all_sets (trigger_atoms tr) (side_of tr waits)) in
      let same = length-map (value_sets (trigger_atoms tr) (side_of tr waits)) (at_set waits) in
      omega (arith, fewer, same)

  pub values_few : trigger_states tr ≤ 256 → length (standings tr) ≤ 256
  values_few few = let a = side_short false in let b = side_short true in let both = length-append (side_standings tr false) (side_standings tr true) in omega (arith, a, b, both, few)

-- ---- triggers that are well typed

mutual
  readable : (r : Regular) → repeats_well r ≡ true → is_readable r ≡ true
  readable (Atom e) well = refl
  readable (Sequence rs) well = each_readable rs well
  readable (Choice rs) well = let parts = and_parts (has_some rs) (each_repeats_well rs) well in and_from _ _ parts.0 (each_readable rs parts.1)
  readable (Repetition r low None) well = readable r (and_parts (nat_le low 256) (repeats_well r) well).1
  readable (Repetition r low (Some high)) well =
      let first = and_parts (nat_le low high) (nat_le high 256 && repeats_well r) well in
      let second = and_parts (nat_le high 256) (repeats_well r) first.1 in
      and_from _ _ first.0 (readable r second.1)

  each_readable : (rs : Regulars) → each_repeats_well rs ≡ true → are_readable rs ≡ true
  each_readable Regulars.none well = refl
  each_readable (Regulars.one_more r rs) well = let parts = and_parts (repeats_well r) (each_repeats_well rs) well in and_from _ _ (readable r parts.0) (each_readable rs parts.1)

module _ (s : Specification) where
  side_readable : (r : Regular) → is_typed_side s r ≡ true → is_readable r ≡ true
  side_readable r typed = readable r (and_parts (repeats_well r) (nat_le (positions_in r) 64 && list_all (is_typed_state (scope_of_specification s) (length s.names)) (atoms_of r)) typed).0

  module _ (tr : TriggerData) (typed : is_typed_trigger s tr ≡ true) where
    abbrev limits : Bool
    limits = nat_le (length (trigger_atoms tr)) 8 && nat_le (trigger_states tr) 256

    pub typed_reads : (is_readable tr.cause ≡ true) × (is_readable tr.effect ≡ true)
    typed_reads =
        let first = and_parts (is_typed_side s tr.cause) (is_typed_side s tr.effect && limits) typed in
        let second = and_parts (is_typed_side s tr.effect) limits first.1 in
        (side_readable tr.cause first.0, side_readable tr.effect second.0)

    pub typed_values_few : length (standings tr) ≤ 256
    typed_values_few =
        let first = and_parts (is_typed_side s tr.cause) (is_typed_side s tr.effect && limits) typed in
        let second = and_parts (is_typed_side s tr.effect) limits first.1 in
        values_few tr (leb-true (trigger_states tr) 256 (and_parts (nat_le (length (trigger_atoms tr)) 8) (nat_le (trigger_states tr) 256) second.1).1)

    -- the table's entry tells that no effect is pending
    pub typed_goal : (r : Reading) (t : ℕ) → entry_along (table_of tr) r 0 t ≡ not (is_pending r tr t)
    typed_goal r t = goal_is_not_pending r tr typed_reads.0 typed_reads.1 t
