-- The formulas of a well-typed specification's lines are plain, and have kinds.
use Rattle.std.proofs.Common.{◌≡◌, ℕ, zero, suc, Bool, true, false, not, ◌&&◌, List, [], ◌∷◌, ◌++◌, length, is_some, option_map, unwrap_or, slice_get, refl, ◌∙◌}
use Rattle.std.specs.Prelude.{nat_le}
use Rattle.std.specs.List.{list_all}
use Rattle.std.proofs.lemmas.Bool.{and_parts, and_from}
use Rattle.std.proofs.lemmas.List.Folds.{list_all-append}
use Rattle.spec_model.specs.Syntax.{Formula, Content, Initial, Safety, Recurring, PatternUse, TriggerUse, Regular, TriggerData, Specification}
use Rattle.spec_model.specs.Moves.{has_next, is_assumption}
use Rattle.spec_model.specs.Sizes.{atoms_of, formulas_of}
use Rattle.spec_model.specs.Steps.{is_output_variable}
use Rattle.spec_model.specs.TriggerStates.{trigger_atoms, trigger_states}
use Rattle.spec_model.specs.Typing.{Scope, kind_of, is_truth}
use Rattle.spec_model.specs.WellTyped.{is_nested_well, is_typed, is_typed_state, reads_some, shifts_some, scope_of_specification, has_arguments, is_typed_content, is_typed_line, repeats_well, positions_in, is_typed_side, is_typed_trigger, WellTyped}
use Rattle.past_bits.proofs.Plain.{is_plain, some_truth, typed_plain}

all_pass : {X : Type 0} (p q : X → Bool) → ((x : X) → p x ≡ true → q x ≡ true) → (xs : List X) → list_all p xs ≡ true → list_all q xs ≡ true
all_pass p q each [] is = refl
all_pass p q each (x ∷ xs) is = let parts = and_parts (p x) (list_all p xs) is in and_from _ _ (each x parts.0) (all_pass p q each xs parts.1)

-- a test that each typed formula passes
module _ (s : Specification) (test : Formula → Bool) (passes : (e : Formula) → is_typed (scope_of_specification s) (length s.names) e ≡ true → test e ≡ true) where
  abbrev sc : Scope
  sc = scope_of_specification s

  abbrev m : ℕ
  m = length s.names

  state_passes : (e : Formula) → is_typed_state sc m e ≡ true → test e ≡ true
  state_passes e is = passes e (and_parts (is_typed sc m e) (not (has_next e)) is).0

  side_passes : (r : Regular) → is_typed_side s r ≡ true → list_all test (atoms_of r) ≡ true
  side_passes r is =
      let first = and_parts (repeats_well r) (nat_le (positions_in r) 64 && list_all (is_typed_state sc m) (atoms_of r)) is in
      let second = and_parts (nat_le (positions_in r) 64) (list_all (is_typed_state sc m) (atoms_of r)) first.1 in
      all_pass (is_typed_state sc m) test state_passes (atoms_of r) second.1

  trigger_passes : (tr : TriggerData) → is_typed_trigger s tr ≡ true → list_all test (atoms_of tr.cause ++ atoms_of tr.effect) ≡ true
  trigger_passes tr is =
      let first = and_parts (is_typed_side s tr.cause) (is_typed_side s tr.effect && (nat_le (length (trigger_atoms tr)) 8 && nat_le (trigger_states tr) 256)) is in
      let second = and_parts (is_typed_side s tr.effect) (nat_le (length (trigger_atoms tr)) 8 && nat_le (trigger_states tr) 256) first.1 in
      list_all-append test (atoms_of tr.cause) (atoms_of tr.effect) ∙ and_from _ _ (side_passes tr.cause first.0) (side_passes tr.effect second.0)

  atoms_passes : (ts : List TriggerData) (t : ℕ) → list_all (is_typed_trigger s) ts ≡ true →
      list_all test (unwrap_or (option_map (λ (tr : TriggerData). atoms_of tr.cause ++ atoms_of tr.effect) (slice_get ts t)) []) ≡ true
  atoms_passes [] t is = refl
  atoms_passes (tr ∷ ts) zero is = trigger_passes tr (and_parts (is_typed_trigger s tr) (list_all (is_typed_trigger s) ts) is).0
  atoms_passes (tr ∷ ts) (suc t) is = atoms_passes ts t (and_parts (is_typed_trigger s tr) (list_all (is_typed_trigger s) ts) is).1

  content_passes : list_all (is_typed_trigger s) s.triggers ≡ true → (asm : Bool) (c : Content) → is_typed_content s asm c ≡ true → list_all test (formulas_of s c) ≡ true
  content_passes triggers asm (Initial e) is = and_from _ _ (state_passes e (and_parts (is_typed_state sc m e) (not (asm && reads_some (is_output_variable s.variables) e)) is).0) refl
  content_passes triggers asm (Safety e) is = and_from _ _ (passes e (and_parts (is_typed sc m e) (not (asm && shifts_some (is_output_variable s.variables) e)) is).0) refl
  content_passes triggers asm (Recurring e) is = and_from _ _ (state_passes e is) refl
  content_passes triggers asm (PatternUse p es) is = all_pass (is_typed_state sc m) test state_passes es (and_parts (has_arguments s p es) (list_all (is_typed_state sc m) es) is).1
  content_passes triggers asm (TriggerUse t) is = atoms_passes s.triggers t triggers

  pub lines_pass : WellTyped s → list_all (λ l. list_all test (formulas_of s l.content)) s.lines ≡ true
  lines_pass typed = all_pass (is_typed_line s) (λ l. list_all test (formulas_of s l.content)) (λ l is. content_passes typed.triggers (is_assumption l.role) l.content is) s.lines typed.lines

pub lines_plain : (s : Specification) → WellTyped s → list_all (λ l. list_all (is_plain true) (formulas_of s l.content)) s.lines ≡ true
lines_plain s typed = lines_pass s (is_plain true) (typed_plain (scope_of_specification s) (length s.names)) typed

has_kind : (sc : Scope) (m : ℕ) (e : Formula) → is_typed sc m e ≡ true → is_some (kind_of sc e) ≡ true
has_kind sc m e is = some_truth (kind_of sc e) (and_parts (is_truth (kind_of sc e)) (is_nested_well m false false e) is).0

pub lines_have_kinds : (s : Specification) → WellTyped s → list_all (λ l. list_all (λ e. is_some (kind_of (scope_of_specification s) e)) (formulas_of s l.content)) s.lines ≡ true
lines_have_kinds s typed = lines_pass s (λ e. is_some (kind_of (scope_of_specification s) e)) (has_kind (scope_of_specification s) (length s.names)) typed
