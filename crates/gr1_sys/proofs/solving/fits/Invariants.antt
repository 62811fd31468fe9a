use Rattle.std.proofs.Common.{◌≡◌, ◌+◌, ◌≤◌, sum, take}
use Rattle.gr1_sys.specs.Held.{ranks_of}
use Rattle.gr1_sys.proofs.solving.fits.Given as goal

-- one more than the layers of the goals so far, which fits
abbrev pub invariant-loop-layers : goal.invariant-loop-layers
invariant-loop-layers g l = record { sum : l.k ≡ 1 + sum (ranks_of (take l.layers-index l.goals)); fits : l.k ≤ 18446744073709551615 }
