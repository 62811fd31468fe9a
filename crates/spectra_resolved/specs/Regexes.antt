-- Regular expressions with each name replaced by what it stands for.
use Rattle.std.specs.Prelude.{ℕ, pos, List, [], ◌++◌, Some, None}
use Rattle.spectra_trees.specs.Data.{RegexData, Regexes, RepeatData}
use Rattle.spectra_resolved.specs.declared.tree.Times.{Times}
use Rattle.spectra_resolved.specs.declared.findings.Finding.{Finding}
use Rattle.spectra_resolved.specs.Numbers.{number_of}
use Rattle.spectra_resolved.specs.Looks.{Looking}
use Rattle.spectra_resolved.specs.Resolved.{ResolvedRegex, ResolvedRegexes}
use Rattle.spectra_resolved.specs.Resolving.{resolved, misuses}

-- how often a part is repeated
abbrev pub times_of : RepeatData → Times
times_of RepeatData.Star = record { least = pos 0; most = None }
times_of RepeatData.Plus = record { least = pos 1; most = None }
times_of RepeatData.Optional = record { least = pos 0; most = Some (pos 1) }
times_of (RepeatData.Exactly n) = record { least = number_of n; most = Some (number_of n) }
times_of (RepeatData.Between n m) = record { least = number_of n; most = Some (number_of m) }

abbrev mutual
  pub resolved_regex : Looking → (file : ℕ) → RegexData → ResolvedRegex
  resolved_regex look file (RegexData.Atom e) = ResolvedRegex.Atom (resolved look file e)
  resolved_regex look file (RegexData.Cat rs) = ResolvedRegex.Sequence (resolved_regexes look file rs)
  resolved_regex look file (RegexData.Alt rs) = ResolvedRegex.Choice (resolved_regexes look file rs)
  resolved_regex look file (RegexData.Repeat r times) = ResolvedRegex.Repetition (resolved_regex look file r) (times_of times)

  pub resolved_regexes : Looking → (file : ℕ) → Regexes → ResolvedRegexes
  resolved_regexes look file Regexes.none = ResolvedRegexes.none
  resolved_regexes look file (Regexes.one_more r rs) = ResolvedRegexes.one_more (resolved_regex look file r) (resolved_regexes look file rs)

-- each misused name in its atoms
abbrev mutual
  pub regex_misuses : ResolvedRegex → List Finding
  regex_misuses (ResolvedRegex.Atom t) = misuses t
  regex_misuses (ResolvedRegex.Sequence rs) = misuses_of_regexes rs
  regex_misuses (ResolvedRegex.Choice rs) = misuses_of_regexes rs
  regex_misuses (ResolvedRegex.Repetition r times) = regex_misuses r

  pub misuses_of_regexes : ResolvedRegexes → List Finding
  misuses_of_regexes ResolvedRegexes.none = []
  misuses_of_regexes (ResolvedRegexes.one_more r rs) = regex_misuses r ++ misuses_of_regexes rs
