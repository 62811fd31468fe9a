use Rattle.std.proofs.Common.{◌≡◌, take}
use Rattle.spectra_lines.proofs.putting.copy_times.Given as goal

abbrev pub invariant-loop-t : goal.invariant-loop-t
invariant-loop-t l = l.copies.items ≡ take l.t-index l.times
