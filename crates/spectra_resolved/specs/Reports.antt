-- What is found besides what was found before.
use Rattle.std.specs.Prelude.{Option}
use Rattle.spectra_resolved.specs.declared.findings.Finding.{Finding}
use Rattle.spectra_resolved.specs.declared.findings.Findings.{Findings}

-- what the program has found so far
abbrev pub found_in : Findings → Option Finding
found_in f = f.first
