-- Which patterns have no fault of their types.
use Rattle.std.specs.Prelude.{ℕ, Bool, true, false, List, Option, Some, None, length, IsTrue, All}
use Rattle.std.specs.List.{list_all}
use Rattle.spec_model.specs.Values.{WholeNumbers, Enumeration}
use Rattle.spec_model.specs.Syntax.{PatternData}
use Rattle.spec_model.specs.WellTyped.{is_domain_of}
use Rattle.spectra_resolved.specs.Texts.{ResolvedPattern}
use Rattle.spectra_judge.specs.Kinds.{Kind, Truth, Whole, NameOf}
use Rattle.spectra_cases.specs.Laws.{IsWrittenOut}
use Rattle.spectra_judge.specs.PutIn.{is_put_in, in_pattern}
use Rattle.spectra_patterns.specs.Patterns.{line_tree}

-- ---- faults of the whole

-- what it means, unless it has a fault
abbrev pub unless : Option ℕ → PatternData → Option PatternData
unless (Some number) p = None
unless None p = Some p

-- ---- patterns whose names and types have no fault

-- the kind of a type of truth values, of a range or of an enum, where so many enum names are declared
abbrev pub is_type_kind : (names : ℕ) → Kind → Bool
is_type_kind names Truth = true
is_type_kind names (Whole low high) = is_domain_of names (WholeNumbers low high)
is_type_kind names (NameOf ns) = is_domain_of names (Enumeration ns)
is_type_kind names _ = false

-- Each of its own variables has a type, whose enum names have numbers of 16 bits, and in its lines stand so many enum names, its
-- parameters and its own variables alone.
pub record IsSound (own : List Kind) (p : ResolvedPattern) : Type 0 where
  pub names : ℕ
  pub types : IsTrue (list_all (is_type_kind names) own)
  pub few : IsTrue (list_all (is_type_kind 65_536) own)
  pub lines : IsTrue (list_all (λ l. is_put_in (in_pattern names p.params (length own)) (line_tree l)) p.lines)
  pub out : All (λ l. IsWrittenOut (line_tree l)) p.lines
