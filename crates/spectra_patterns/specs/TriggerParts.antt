-- The parts of a trigger: the faults of its brackets, and what repeats mean.
use Rattle.std.specs.Prelude.{Bool, true, ◌&&◌, List, [], ◌∷◌, ◌++◌, Option, Some, None, option_map, if◌then◌else◌}
use Rattle.spec_model.specs.Syntax as model
use Rattle.spec_model.specs.Syntax.{Regular, TriggerData}
use Rattle.spectra_resolved.specs.declared.stand.Stand.TheVariants as stand
use Rattle.spectra_resolved.specs.declared.findings.Finding.{Finding}
use Rattle.spectra_resolved.specs.declared.tree.Times.{Times}
use Rattle.spectra_resolved.specs.Resolved.{ResolvedRegex, Atom, Sequence, Choice, Repetition, ResolvedRegexes}
use Rattle.spectra_judge.specs.Known.{Known}
use Rattle.spectra_judge.specs.Judged.{faults_of}
use Rattle.spectra_cases.specs.Laws.{IsWrittenOut}
use Rattle.spectra_judge.specs.PutIn.{Parts, is_put_in}
use Rattle.spectra_patterns.specs.Triggers.{count_of, trigger_of, is_right}

-- ---- brackets

abbrev mutual
  -- the faults of its brackets, each of which is an atom
  pub atom_faults : Known → ResolvedRegex → List Finding
  atom_faults known (Atom t) = faults_of known stand.Atom t
  atom_faults known (Sequence rs) = each_atom_faults known rs
  atom_faults known (Choice rs) = each_atom_faults known rs
  atom_faults known (Repetition r times) = atom_faults known r

  pub each_atom_faults : Known → ResolvedRegexes → List Finding
  each_atom_faults known ResolvedRegexes.none = []
  each_atom_faults known (ResolvedRegexes.one_more r rs) = atom_faults known r ++ each_atom_faults known rs

abbrev mutual
  -- everything is put in in its brackets
  pub regex_put_in : Parts → ResolvedRegex → Bool
  regex_put_in good (Atom t) = is_put_in good t
  regex_put_in good (Sequence rs) = each_regex_put_in good rs
  regex_put_in good (Choice rs) = each_regex_put_in good rs
  regex_put_in good (Repetition r times) = regex_put_in good r

  pub each_regex_put_in : Parts → ResolvedRegexes → Bool
  each_regex_put_in good ResolvedRegexes.none = true
  each_regex_put_in good (ResolvedRegexes.one_more r rs) = regex_put_in good r && each_regex_put_in good rs

abbrev mutual
  -- and each quantifier in them whose bounds have numbers is written out
  pub RegexIsWrittenOut : ResolvedRegex → Type 0
  RegexIsWrittenOut (Atom t) = IsWrittenOut t
  RegexIsWrittenOut (Sequence rs) = EachIsWrittenOut rs
  RegexIsWrittenOut (Choice rs) = EachIsWrittenOut rs
  RegexIsWrittenOut (Repetition r times) = RegexIsWrittenOut r

  pub EachIsWrittenOut : ResolvedRegexes → Type 0
  EachIsWrittenOut ResolvedRegexes.none = Unit {0}
  EachIsWrittenOut (ResolvedRegexes.one_more r rs) = RegexIsWrittenOut r × EachIsWrittenOut rs

-- ---- what it means

-- an expression with repeats, one after another
abbrev pub with_repeats : Regular → List Times → Regular
with_repeats r [] = r
with_repeats r (t ∷ ts) = with_repeats (model.Repetition r (count_of t.least) (option_map count_of t.most)) ts

-- ---- faults of the whole

-- and one that is so means this
abbrev pub meant_by : Known → (cause effect : ResolvedRegex) → Option TriggerData
meant_by known cause effect = if is_right known cause effect then Some (trigger_of known cause effect) else None
