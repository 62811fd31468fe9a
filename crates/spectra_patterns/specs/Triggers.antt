-- The faults of a trigger, and the trigger of the specification that it means.
use Rattle.spectra_trees.specs.Faults.{TriggerWide, number_of}
use Rattle.std.specs.Prelude.{ℕ, ℤ, pos, int_le, nat_abs, nat_le, Bool, true, not, ◌&&◌, List, Option, Some, None, option_map, length, if◌then◌else◌}
use Rattle.spec_model.specs.Syntax as model
use Rattle.spec_model.specs.Syntax.{Regular, Regulars, TriggerData}
use Rattle.spec_model.specs.TriggerStates.{written, brackets, trigger_atoms, trigger_states}
use Rattle.spectra_resolved.specs.declared.spot.Spot.{Spot}
use Rattle.spectra_resolved.specs.declared.findings.Finding.{Finding}
use Rattle.spectra_resolved.specs.Resolved.{ResolvedRegex, Atom, Sequence, Choice, Repetition, ResolvedRegexes}
use Rattle.spectra_judge.specs.Findings.{fault_if}
use Rattle.spectra_judge.specs.Known.{Known}
use Rattle.spectra_cases.specs.Formulas.{formula_of}

-- ---- repeats

-- a number of a repeat is from 0 to 256
abbrev pub is_count : ℤ → Bool
is_count n = int_le (pos 0) n && int_le n (pos 256)

-- the upper number isn't below the lower one
abbrev pub are_counts : ℤ → Option ℤ → Bool
are_counts least None = is_count least
are_counts least (Some most) = is_count least && (is_count most && int_le least most)

abbrev mutual
  -- the numbers of all its repeats are right
  pub counts_well : ResolvedRegex → Bool
  counts_well (Atom t) = true
  counts_well (Sequence rs) = each_counts_well rs
  counts_well (Choice rs) = each_counts_well rs
  counts_well (Repetition r times) = are_counts times.least times.most && counts_well r

  pub each_counts_well : ResolvedRegexes → Bool
  each_counts_well ResolvedRegexes.none = true
  each_counts_well (ResolvedRegexes.one_more r rs) = counts_well r && each_counts_well rs

-- ---- what it means

-- a number of a repeat; a wrong one, for which there is a fault, counts as 0
abbrev pub count_of : ℤ → ℕ
count_of n = if is_count n then nat_abs n else 0

abbrev mutual
  pub regular_of : Known → ResolvedRegex → Regular
  regular_of known (Atom t) = model.Atom (formula_of known 0 t)
  regular_of known (Sequence rs) = model.Sequence (regulars_of known rs)
  regular_of known (Choice rs) = model.Choice (regulars_of known rs)
  regular_of known (Repetition r times) = model.Repetition (regular_of known r) (count_of times.least) (option_map count_of times.most)

  pub regulars_of : Known → ResolvedRegexes → Regulars
  regulars_of known ResolvedRegexes.none = Regulars.none
  regulars_of known (ResolvedRegexes.one_more r rs) = Regulars.one_more (regular_of known r) (regulars_of known rs)

-- the trigger of the specification
abbrev pub trigger_of : Known → (cause effect : ResolvedRegex) → TriggerData
trigger_of known cause effect = record { cause = regular_of known cause; effect = regular_of known effect }

-- ---- faults of the whole

-- the word `trig` is at fault for a repeat with a wrong number
abbrev pub repeat_faults : Spot → (cause effect : ResolvedRegex) → List Finding
repeat_faults at cause effect = fault_if (not (counts_well cause && counts_well effect)) (number_of TriggerWide) at

-- at most 8 different brackets, 64 positions on each side, and 256 states in both sides together
abbrev pub is_narrow : TriggerData → Bool
is_narrow t =
    nat_le (length (trigger_atoms t)) 8
    && (nat_le (length (brackets (written t.cause))) 64 && (nat_le (length (brackets (written t.effect))) 64 && nat_le (trigger_states t) 256))

-- its repeats are right, and it isn't too wide
abbrev pub is_right : Known → (cause effect : ResolvedRegex) → Bool
is_right known cause effect = counts_well cause && (counts_well effect && is_narrow (trigger_of known cause effect))

-- the word `trig` is at fault for a trigger that isn't so
abbrev pub trigger_faults : Known → Spot → (cause effect : ResolvedRegex) → List Finding
trigger_faults known at cause effect = fault_if (not (is_right known cause effect)) (number_of TriggerWide) at
