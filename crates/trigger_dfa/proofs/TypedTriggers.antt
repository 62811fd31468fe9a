-- The triggers of well-typed specifications are within the limits.
use Rattle.std.proofs.Common.{◌≡◌, ◌≤◌, ℕ, ◌+◌, ◌*◌, max, true, ◌&&◌, nat_le, Some, None, length, subst, refl, sym, ap, ◌∙◌, arith}
use Rattle.std.specs.List.{list_all}
use Rattle.std.proofs.lemmas.Bool.{and_parts}
use borrow.Author.Tests.{leb-true}
use Rattle.spec_model.specs.Syntax.{Regular, Atom, Sequence, Choice, Repetition, Regulars, TriggerData, Specification}
use Rattle.spec_model.specs.Sizes.{atoms_of}
use Rattle.spec_model.specs.TriggerStates.{written, brackets, trigger_atoms, trigger_states}
use Rattle.spec_model.specs.WellTyped.{positions_in, positions_in_each, has_some, repeats_well, each_repeats_well, is_typed_state, is_typed_side, is_typed_trigger, scope_of_specification}
use Rattle.trigger_dfa.specs.Sides.{size_in, size_in_each}
use Rattle.trigger_dfa.specs.Narrow.{IsNarrow}
use Rattle.trigger_dfa.proofs.PositionCounts.{size-written}

upper : (low high : ℕ) → low ≤ high → max low high ≡ high
upper low high less = grind arith

-- where no repeat has an upper number below its lower one, the positions are those of the pieces
mutual
  pub size-positions : (a : Regular) → repeats_well a ≡ true → size_in a ≡ positions_in a
  size-positions (Atom e) well = refl
  size-positions (Sequence rs) well = size-each rs well
  size-positions (Choice rs) well = size-each rs (and_parts (has_some rs) (each_repeats_well rs) well).1
  size-positions (Repetition a low None) well = ap (λ n. (low + 1) * n) (size-positions a (and_parts (nat_le low 256) (repeats_well a) well).1)
  size-positions (Repetition a low (Some high)) well =
      let ordered = and_parts (nat_le low high) _ well in
      let few = and_parts (nat_le high 256) (repeats_well a) ordered.1 in
      ap (λ n. n * size_in a) (upper low high (leb-true low high ordered.0)) ∙ ap (λ n. high * n) (size-positions a few.1)

  size-each : (rs : Regulars) → each_repeats_well rs ≡ true → size_in_each rs ≡ positions_in_each rs
  size-each Regulars.none well = refl
  size-each (Regulars.one_more a rs) well =
      let parts = and_parts (repeats_well a) (each_repeats_well rs) well in
      ap (λ n. n + size_in_each rs) (size-positions a parts.0) ∙ ap (λ n. positions_in a + n) (size-each rs parts.1)

-- a side has few positions
side_is_narrow : (s : Specification) (a : Regular) → is_typed_side s a ≡ true → length (brackets (written a)) ≤ 64
side_is_narrow s a typed =
    let repeats = and_parts (repeats_well a) _ typed in
    let few = and_parts (nat_le (positions_in a) 64) (list_all (is_typed_state (scope_of_specification s) (length s.names)) (atoms_of a)) repeats.1 in
    subst (λ n. n ≤ 64) (sym (size-positions a repeats.0) ∙ size-written a) (leb-true (positions_in a) 64 few.0)

pub typed_is_narrow : (s : Specification) (t : TriggerData) → is_typed_trigger s t ≡ true → IsNarrow t
typed_is_narrow s t typed =
    let cause = and_parts (is_typed_side s t.cause) _ typed in
    let effect = and_parts (is_typed_side s t.effect) _ cause.1 in
    let limits = and_parts (nat_le (length (trigger_atoms t)) 8) (nat_le (trigger_states t) 256) effect.1 in
    record {
      atoms = leb-true (length (trigger_atoms t)) 8 limits.0;
      cause = side_is_narrow s t.cause cause.0;
      effect = side_is_narrow s t.effect effect.0;
      states = leb-true (trigger_states t) 256 limits.1;
    }
