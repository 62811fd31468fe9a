-- Bits moved by a list, as levels.
use Rattle.std.proofs.Common.{◌≡◌, ◌<◌, ◌≤◌, ◌+◌, ◌++◌, ◌⊎◌, inl, inr, ℕ, Result, List, [], ◌∷◌, length, map, slice_index_or, refl, sym, ◌∙◌, ap, subst, arith}
use Rattle.std.specs.List.{range_with_len}
use Rattle.std.proofs.lemmas.Bool.{cases_lt}
use Rattle.std.proofs.lemmas.List.FromFn.{get_or-map-range_with_len, length-map-range_with_len, map-range_with_len_more}
use Rattle.spec_model.specs.Diagrams.{Function, Diagram, value, shifted}
use Rattle.bdd_ops.specs.Reading.{DependsOn}
use Rattle.bdd_ops.specs.Steps.{IsShiftedPart}
use Rattle.bdd_ops.specs.Calls.{RisesOver as LevelsRise}
use Rattle.bdd_bits.specs.Orders.{BitOrder, IsOrder, at, level_of, bit_of, moved_levels}
use Rattle.bdd_store.specs.declared.fault.StoreFault.{StoreFault}
use Rattle.bdd_store.specs.State.{diagram_of}
use Rattle.bdd_ops.specs.Calls.{GivesRoot as GivesOverLevels}
use Rattle.bdd_bits.specs.Contents.{Contents, over_levels, function_at}
use Rattle.bdd_bits.specs.Calls.{RisesOver, GivesRoot}
use Rattle.bdd_bits.proofs.CallLemmas.{gives_bits}
use Rattle.bdd_bits.proofs.OrderLemmas.{at-past, bit_back, level_back, level_below, bit_below}
use Rattle.bdd_bits.proofs.RenamingLemmas.{over_bits, depends_on_bit}

-- one level more is written
pub moved_more : (o : BitOrder) (to before new : List ℕ) (n bit moved level : ℕ) → before ≡ map (λ l. level_of o (at to (bit_of o l))) (range_with_len 0 n) → new ≡ before ++ level ∷ [] →
    bit ≡ bit_of o n → moved ≡ at to bit → level ≡ level_of o moved → new ≡ map (λ l. level_of o (at to (bit_of o l))) (range_with_len 0 (n + 1))
moved_more o to before new n bit moved level so_far pushed is_bit is_moved is_level =
    let here : level ≡ level_of o (at to (bit_of o n)) = is_level ∙ ap (level_of o) (is_moved ∙ ap (at to) is_bit) in
    pushed ∙ (ap (λ (xs : List ℕ). xs ++ level ∷ []) so_far ∙ (ap (λ (l : ℕ). map (λ k. level_of o (at to (bit_of o k))) (range_with_len 0 n) ++ l ∷ []) here ∙ sym (map-range_with_len_more (λ k. level_of o (at to (bit_of o k))) 0 n n (omega arith))))

module _ (levels : ℕ) (o : BitOrder) (is : IsOrder levels o) (to : List ℕ) where
  moved_at : (level : ℕ) → level < levels → at (moved_levels o to) level ≡ level_of o (at to (bit_of o level))
  moved_at level below =
      get_or-map-range_with_len (λ (l : ℕ). level_of o (at to (bit_of o l))) 0 (length o.names) level level level (omega (arith, below, is.names_each)) (omega arith)

  pub moved_each : length (moved_levels o to) ≡ levels
  moved_each = length-map-range_with_len (λ (l : ℕ). level_of o (at to (bit_of o l))) 0 (length o.names) ∙ is.names_each

  same_move : length to ≤ levels → (level : ℕ) → (level < levels) ⊎ (levels ≤ level) → bit_of o (at (moved_levels o to) level) ≡ at to (bit_of o level)
  same_move short level (inl below) = ap (bit_of o) (moved_at level below) ∙ bit_back levels o is (at to (bit_of o level))
  same_move short level (inr past) =
      let itself : bit_of o level ≡ level = at-past o.names level (omega (arith, past, is.names_each)) in
      ap (bit_of o) (at-past (moved_levels o to) level (omega (arith, past, moved_each))) ∙ (itself ∙ sym (ap (at to) itself ∙ at-past to level (omega (arith, past, short))))

  -- moved over levels is moved over bits
  pub moved_over_bits : length to ≤ levels → (f : Function) → over_bits o (shifted (moved_levels o to) f) ≡ shifted to (over_bits o f)
  moved_over_bits short f = λ i s. f (λ level. ap s (same_move short level (cases_lt level levels)) i)

  -- a list that keeps the order of the levels rises over them
  pub levels_rise : (f : Function) → RisesOver levels o to (over_bits o f) → LevelsRise levels (moved_levels o to) f
  levels_rise f rises =
      record {
        known = λ x below depends. omega (arith, below, moved_each);
        below = λ x below depends. subst (λ (n : ℕ). n < levels) (sym (moved_at x below)) (level_below levels o is (at to (bit_of o x)) (rises.below (bit_of o x) (bit_below levels o is x below) (depends_on_bit levels o is x f depends)));
        rising = λ x y before below in_x in_y.
            let below_x : x < levels = omega (arith, before, below) in
            let risen = rises.rising (bit_of o x) (bit_of o y) (subst (λ (n : ℕ). n < level_of o (bit_of o y)) (sym (level_back levels o is x)) (subst (λ (n : ℕ). x < n) (sym (level_back levels o is y)) before))
            (bit_below levels o is x below_x) (bit_below levels o is y below) (depends_on_bit levels o is x f in_x) (depends_on_bit levels o is y f in_y) in
            subst (λ (n : ℕ). n < at (moved_levels o to) y) (sym (moved_at x below_x)) (subst (λ (n : ℕ). level_of o (at to (bit_of o x)) < n) (sym (moved_at y below)) risen);
      }

-- a call over the levels of a list of bits
pub shift_gives : (old new : Contents) (r : Result ℕ StoreFault) (levels to : List ℕ) (a : ℕ) → IsOrder old.state.table.levels old.order → levels ≡ moved_levels old.order to → new.order ≡ old.order →
    length to ≤ old.state.table.levels → GivesOverLevels (over_levels old) (over_levels new) r (shifted levels (value (diagram_of old.state a))) (IsShiftedPart levels (diagram_of old.state a)) →
    GivesRoot old new r (shifted to (function_at old a)) (IsShiftedPart (moved_levels old.order to) (diagram_of old.state a))
shift_gives old new r levels to a is are order short gives =
    let d : Diagram = diagram_of old.state a in
    gives_bits old new r (shifted (moved_levels old.order to) (value d)) (shifted to (function_at old a)) (IsShiftedPart (moved_levels old.order to) d) order (moved_over_bits old.state.table.levels old.order is to short (value d))
    (subst (λ (ls : List ℕ). GivesOverLevels (over_levels old) (over_levels new) r (shifted ls (value d)) (IsShiftedPart ls d)) are gives)
