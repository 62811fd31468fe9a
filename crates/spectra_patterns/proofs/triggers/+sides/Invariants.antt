use Rattle.std.proofs.Common.{◌≡◌, ◌++◌, map, drop}
use Rattle.spec_model.specs.Views.{regular}
use Rattle.spectra_resolved.specs.Chained.{regexes}
use Rattle.spectra_resolved.specs.Views.{regex_data}
use Rattle.spectra_judge.specs.KindViews.{known_data}
use Rattle.spectra_patterns.specs.Triggers.{regulars_of}
use Rattle.spectra_patterns.proofs.Regexes.{regular_list}
use Rattle.spectra_patterns.proofs.triggers.+sides.Given as goal

-- those so far and those of what is left are all
abbrev pub invariant-sides-loop-r : goal.invariant-sides-loop-r
invariant-sides-loop-r l =
    let known = known_data l.by.known in
    map regular l.made.items ++ regular_list (regulars_of known (regexes (map regex_data (drop l.r-index l.rs)))) ≡ regular_list (regulars_of known (regexes (map regex_data l.rs)))
