-- What stands in a formula where it may: `next` and past operators not in one another.
use Rattle.std.proofs.Common.{◌≡◌, ℕ, true, false, not, ◌&&◌, [], ◌++◌, Option, Some, None, is_some, unwrap_or, refl}
use Rattle.std.proofs.lemmas.Bool.{and_from, not_from_false}
use Rattle.spec_model.specs.Syntax.{Formula}
use Rattle.spec_model.specs.WellTyped.{is_nested_well}
use Rattle.spectra_trees.specs.declared.tree.PrefixWord.{PrefixWord}
use Rattle.spectra_trees.specs.declared.tree.PrefixWord.TheVariants as prefixes
use Rattle.spectra_trees.specs.declared.tree.BinaryWord.{BinaryWord}
use Rattle.spectra_trees.specs.declared.tree.BinaryWord.TheVariants as binary
use Rattle.spectra_resolved.specs.declared.spot.Mark.{Mark}
use Rattle.spectra_judge.specs.Findings.{fault_if}
use Rattle.spectra_judge.specs.Operators.{is_past, is_past_prefix}
use Rattle.spectra_judge.specs.declared.standing.Bans.{Bans}
use Rattle.spectra_judge.specs.declared.around.Around.{Around}
use Rattle.spectra_judge.specs.Around.{within, in_next, in_past, in_bounds, next_faults, past_faults}
use Rattle.spectra_judge.specs.Known.{Setting}
use Rattle.spectra_judge.specs.Judged.{operator_faults}
use Rattle.spectra_cases.specs.Formulas.{prefix_formula, binary_formula}
use Rattle.spectra_judge.proofs.Empty.{not_empty, empty_parts, no_fault}

-- nothing is open around a part that is no fault in it
free : (outer : Option Mark) (at : Mark) → in_next outer at ≡ [] → is_some outer ≡ false
free (Some outer) at none = absurd (not_empty _ _ none)
free None at none = refl

past_free : (bans : Bans) (next : Option Mark) (at : Mark) → past_faults bans next at ≡ [] → is_some next ≡ false
past_free bans next at none = free next at (empty_parts (fault_if bans.past 9 at.spot) (in_next next at) none).1

pub next_free : (bans : Bans) (o : Around) (at : Mark) → next_faults bans o at ≡ [] → (is_some o.next ≡ false) × (o.past ≡ false)
next_free bans o at none =
    let later = in_past o at.spot ++ in_bounds true 10 o at in
    let parts = empty_parts (fault_if bans.next 10 at.spot) (in_next o.next at ++ later) none in
    let each = empty_parts (in_next o.next at) later parts.1 in
    let last = empty_parts (in_past o at.spot) (in_bounds true 10 o at) each.1 in (free o.next at each.0, no_fault o.past 11 (unwrap_or o.brought at.spot) last.0)

-- a formula stands well where so much is open
abbrev pub StandsWell : (names : ℕ) → Around → Formula → Type 0
StandsWell m o f = is_nested_well m (is_some o.next) o.past f ≡ true

module _ (s : Setting) (m : ℕ) (o : Around) (at : Mark) where
  past_one : (f : Formula) → past_faults s.bans o.next at ≡ [] → is_nested_well m (is_some o.next) true f ≡ true → (not (is_some o.next) && (is_nested_well m (is_some o.next) true f && true)) ≡ true
  past_one f none here = and_from _ _ (not_from_false (is_some o.next) (past_free s.bans o.next at none)) (and_from _ _ here refl)

  past_two : (f g : Formula) → past_faults s.bans o.next at ≡ [] → is_nested_well m (is_some o.next) true f ≡ true → is_nested_well m (is_some o.next) true g ≡ true
      → (not (is_some o.next) && (is_nested_well m (is_some o.next) true f && (is_nested_well m (is_some o.next) true g && true))) ≡ true
  past_two f g none first second =
      and_from _ _ (not_from_false (is_some o.next) (past_free s.bans o.next at none)) (and_from _ _ first (and_from _ _ second refl))

  pub prefix_stands : (word : PrefixWord) (f : Formula) → operator_faults s (is_past_prefix word) o.next at ≡ [] → StandsWell m (within (is_past_prefix word) at o) f → StandsWell m o (prefix_formula word f)
  prefix_stands prefixes.Not f none here = here
  prefix_stands prefixes.Prev f none here = past_one f none here
  prefix_stands prefixes.Once f none here = past_one f none here
  prefix_stands prefixes.Historically f none here = past_one f none here

  pub binary_stands : (word : BinaryWord) (f g : Formula) → operator_faults s (is_past word) o.next at ≡ [] → StandsWell m (within (is_past word) at o) f → StandsWell m (within (is_past word) at o) g
      → StandsWell m o (binary_formula word f g)
  binary_stands binary.Implies f g none a b = and_from _ _ a b
  binary_stands binary.Iff f g none a b = and_from _ _ a b
  binary_stands binary.Since f g none a b = past_two f g none a b
  binary_stands binary.Triggered f g none a b = past_two f g none a b
  binary_stands binary.Eq f g none a b = and_from _ _ a b
  binary_stands binary.Ne f g none a b = and_from _ _ a b
  binary_stands binary.Lt f g none a b = and_from _ _ a b
  binary_stands binary.Le f g none a b = and_from _ _ a b
  binary_stands binary.Gt f g none a b = and_from _ _ a b
  binary_stands binary.Ge f g none a b = and_from _ _ a b
  binary_stands binary.Add f g none a b = and_from _ _ a b
  binary_stands binary.Sub f g none a b = and_from _ _ a b
  binary_stands binary.Mul f g none a b = and_from _ _ a b
