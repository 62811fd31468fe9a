use Rattle.std.proofs.Common.{◌≡◌, map, drop}
use Rattle.spectra_resolved.specs.Chained.{regexes}
use Rattle.spectra_resolved.specs.Views.{regex_data}
use Rattle.spectra_patterns.specs.Triggers.{each_counts_well}
use Rattle.spectra_patterns.proofs.counting.+counting.Given as goal

-- what is left is the answer
abbrev pub invariant-each_counts_well-loop-r : goal.invariant-each_counts_well-loop-r
invariant-each_counts_well-loop-r l = each_counts_well (regexes (map regex_data (drop l.r-index l.rs))) ≡ each_counts_well (regexes (map regex_data l.rs))
