use Rattle.std.proofs.Common.{◌≡◌, ◌++◌, map, drop}
use Rattle.spectra_resolved.specs.Chained.{regexes}
use Rattle.spectra_resolved.specs.Views.{regex_data}
use Rattle.spectra_lines.specs.Contents.{brackets_of_each}
use Rattle.spectra_lines.specs.Views.{trees_data}
use Rattle.spectra_lines.proofs.trees.+bracketing.Given as goal

-- those so far and those of what is left are all
abbrev pub invariant-add_each_brackets-loop-r : goal.invariant-add_each_brackets-loop-r
invariant-add_each_brackets-loop-r l =
    trees_data l.trees.items ++ brackets_of_each (regexes (map regex_data (drop l.r-index l.rs))) ≡ trees_data l.fn.trees.items ++ brackets_of_each (regexes (map regex_data l.rs))
