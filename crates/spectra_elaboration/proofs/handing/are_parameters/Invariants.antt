use Rattle.std.proofs.Common.{◌≡◌, true, map, drop}
use Rattle.spectra_resolved.specs.Chained.{trees}
use Rattle.spectra_resolved.specs.Views.{resolved_data}
use Rattle.spectra_elaboration.specs.Handing.{are_parameters}
use Rattle.spectra_elaboration.proofs.handing.are_parameters.Given as goal

-- where the rest are parameters in order, all are
abbrev pub invariant-loop-place : goal.invariant-loop-place
invariant-loop-place l = are_parameters l.place (trees (map resolved_data (drop l.place l.ts))) ≡ true → are_parameters 0 (trees (map resolved_data l.ts)) ≡ true
