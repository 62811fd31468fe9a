use Rattle.std.proofs.Common.{◌≡◌, ◌++◌, map, drop}
use Rattle.spectra_resolved.specs.Chained.{regexes}
use Rattle.spectra_resolved.specs.Views.{regex_data}
use Rattle.spectra_lines.specs.Contents.{brackets_of_each, each_regex_put}
use Rattle.spectra_lines.specs.Limits.{all_fit}
use Rattle.spectra_lines.specs.Views.{facts_data}
use Rattle.spectra_lines.proofs.Bracketed.{regex_list}
use Rattle.spectra_lines.proofs.putting.+putting.Given as goal

-- those so far and those of what is left are all, and what is left decides whether all fit
abbrev pub invariant-put_regexes-loop-r : goal.invariant-put_regexes-loop-r
invariant-put_regexes-loop-r l =
    record {
      made : map regex_data l.made.items ++ regex_list (each_regex_put (facts_data l.facts) (regexes (map regex_data (drop l.r-index l.rs)))) ≡ regex_list (each_regex_put (facts_data l.facts) (regexes (map regex_data l.rs)));
      fit : all_fit (brackets_of_each (each_regex_put (facts_data l.facts) (regexes (map regex_data (drop l.r-index l.rs))))) ≡ all_fit (brackets_of_each (each_regex_put (facts_data l.facts) (regexes (map regex_data l.rs))));
    }
