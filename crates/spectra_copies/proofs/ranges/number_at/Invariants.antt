use Rattle.std.proofs.Common.{◌≡◌, drop, None}
use Rattle.spectra_copies.specs.Ranges.{number_or}
use Rattle.spectra_copies.proofs.ranges.number_at.Given as goal

-- the quantifiers that are left decide
abbrev pub invariant-loop-bound : goal.invariant-loop-bound
invariant-loop-bound l = number_or l.number (drop l.bound-index l.bounds) l.at ≡ number_or None l.bounds l.at
