use Rattle.std.proofs.Common.{◌≡◌, min, drop}
use Rattle.spectra_resolved.specs.Numbers.{written_after}
use Rattle.spectra_resolved.proofs.numbers.number_of.Given as goal

-- the number so far, and what is left, write the whole
abbrev pub invariant-loop-digit : goal.invariant-loop-digit
invariant-loop-digit l =
    min (written_after l.number (drop l.digit-index l.digit-items)) 1_000_000_000_001 ≡ min (written_after 0 l.digit-items) 1_000_000_000_001
