use Rattle.std.proofs.Common.{◌≡◌, take}
use Rattle.spectra_patterns.proofs.domains.numbers.Given as goal

abbrev pub invariant-loop-name : goal.invariant-loop-name
invariant-loop-name l = l.made.items ≡ take l.name-index l.names
