-- Laws over the definitions alone, each of which the function of its name in src/laws.rt proves.
use Rattle.std.specs.Prelude.{◌≡◌, ◌≤◌, ℕ, ℤ, Bool, true, false, ◌&&◌, List, [], Some, length, map, sum}
use Rattle.std.specs.List.{list_all}
use Rattle.spec_model.specs.Syntax.{Specification}
use Rattle.spec_model.specs.WellTyped.{is_typed_pattern, is_typed_trigger}
use Rattle.spectra_trees.specs.Data.{Expression}
use Rattle.spectra_resolved.specs.declared.table.Named.TheVariants as names
use Rattle.spectra_resolved.specs.declared.tree.Leaf.{Leaf}
use Rattle.spectra_resolved.specs.declared.tree.Leaf.TheVariants as leaf
use Rattle.spectra_resolved.specs.Looks.{Looking}
use Rattle.spectra_resolved.specs.Resolving.{resolved, misuses}
use Rattle.spectra_resolved.specs.Resolved.{ResolvedRegex, Atom, Sequence, Choice, Repetition, ResolvedRegexes}
use Rattle.spectra_resolved.specs.Texts.{ResolvedPattern}
use Rattle.spectra_judge.specs.Kinds.{Kind}
use Rattle.spectra_judge.specs.Known.{Known}
use Rattle.spectra_judge.specs.PutIn.{Parts, is_put_in, in_line, domain_kind, has_room}
use Rattle.spectra_cases.specs.Laws.{AreAlike}
use Rattle.spectra_patterns.specs.Patterns.{pattern_of, pattern_faults}
use Rattle.spectra_patterns.specs.SoundPatterns.{IsSound}
use Rattle.spectra_patterns.specs.Triggers.{trigger_of, is_right}
use Rattle.spectra_patterns.specs.TriggerParts.{atom_faults, regex_put_in, RegexIsWrittenOut}

-- a pattern without a fault means one that is well typed
abbrev pub PatternIsTyped : Type 0
PatternIsTyped = (own : List Kind) (p : ResolvedPattern) (sound : IsSound own p) → pattern_faults true own p ≡ [] → is_typed_pattern sound.names (pattern_of own p) ≡ true

abbrev mutual
  -- each choice has an alternative
  pub has_choices : ResolvedRegex → Bool
  has_choices (Atom t) = true
  has_choices (Sequence rs) = each_has_choices rs
  has_choices (Choice rs) = has_some rs && each_has_choices rs
  has_choices (Repetition r times) = has_choices r

  pub each_has_choices : ResolvedRegexes → Bool
  each_has_choices ResolvedRegexes.none = true
  each_has_choices (ResolvedRegexes.one_more r rs) = has_choices r && each_has_choices rs

  pub has_some : ResolvedRegexes → Bool
  has_some ResolvedRegexes.none = false
  has_some (ResolvedRegexes.one_more r rs) = true

-- One side of a trigger of a specification, in which everything is put in: its choices have alternatives, and its brackets no fault.
-- Variables of so many elements each are declared.
pub record IsFaultless (s : Specification) (counts : List ℕ) (known : Known) (r : ResolvedRegex) : Type 0 where
  pub choices : has_choices r ≡ true
  pub put_in : regex_put_in (in_line (length s.names) counts) r ≡ true
  pub out : RegexIsWrittenOut r
  pub faultless : atom_faults known r ≡ []

-- a trigger without a fault means one that is well typed, where the enum names of variables have numbers of 16 bits
abbrev pub TriggerIsTyped : Type 0
TriggerIsTyped = (s : Specification) (counts : List ℕ) (known : Known) (cause effect : ResolvedRegex) → sum counts ≡ length s.variables → length s.variables ≤ 1024 → AreAlike counts known → known.variables ≡ map (λ v. domain_kind v.domain) s.variables → list_all has_room known.variables ≡ true →
    IsFaultless s counts known cause → IsFaultless s counts known effect → is_right known cause effect ≡ true → is_typed_trigger s (trigger_of known cause effect) ≡ true

-- ---- names

-- names stand for parts without parts that pass a test, as truth values and numbers do, and for nothing else
pub record StandForLeaves (look : Looking) (good : Parts) : Type 0 where
  pub truth : (b : Bool) → good.leaf (leaf.Truth b) ≡ true
  pub number : (z : ℤ) → good.leaf (leaf.Number z) ≡ true
  pub name : (text : List ℕ) (l : Leaf) → look text ≡ Some (names.Leaf l) → good.leaf l ≡ true
  pub predicate : (text : List ℕ) (k arity : ℕ) → look text ≡ Some (names.Predicate k arity) → ⊥
  pub array : (text : List ℕ) (k n : ℕ) → look text ≡ Some (names.Array k n) → ⊥

-- in an expression whose names do so and are not misused, everything is put in as it is written
abbrev pub ResolvedIsPutIn : Type 0
ResolvedIsPutIn = (look : Looking) (good : Parts) → StandForLeaves look good → (file : ℕ) (e : Expression) →
    misuses (resolved look file e) ≡ [] → is_put_in good (resolved look file e) ≡ true
