-- What a step of resolving goes by, and what it adds to what was there.
use Rattle.std.specs.Prelude.{◌≡◌, List, ◌++◌, map}
use Rattle.spectra_resolved.specs.declared.findings.Finding.{Finding}
use Rattle.spectra_resolved.specs.declared.findings.Findings.{Findings}
use Rattle.spectra_resolved.specs.declared.resolving.Resolver.{Resolver}
use Rattle.spectra_resolved.specs.Findings.{with_faults}
use Rattle.spectra_resolved.specs.Reports.{found_in}
use Rattle.spectra_resolved.specs.Looks.{Looking, Names}
use Rattle.spectra_resolved.specs.LookViews.{scope_data, look_data}

-- these faults are found, beside those so far
abbrev pub Finds : (old new : Findings) → List Finding → Type 0
Finds old new faults = found_in new ≡ with_faults (found_in old) faults

-- these stand behind what was there, each seen as its plain data
abbrev pub Adds : {A B : Type 0} → (A → B) → (old new : List A) → List B → Type 0
Adds view old new more = map view new ≡ map view old ++ more

-- what names stand for by a resolver: in all files, and where they stand
abbrev pub names_by : Resolver → Names
names_by r = scope_data r.look.scope.now

abbrev pub look_by : Resolver → Looking
look_by r = look_data r.look
