-- What is told of a name space, declaration by declaration.
use Rattle.std.specs.Prelude.{ℕ, List, [], ◌∷◌, Option}
use Rattle.spectra_resolved.specs.declared.table.Named.{Named}
use Rattle.spectra_resolved.specs.declared.findings.Finding.{Finding}
use Rattle.spectra_resolved.specs.Findings.{with_faults}
use Rattle.spectra_resolved.specs.Spaces.{Entry, and_name, clash}

-- what a name stands for, and the fault that was found first
pub record Told : Type 0 where
  pub look : List ℕ → Option Named
  pub found : Option Finding

abbrev pub with_entry : Told → Entry → Told
with_entry t d = record { look = and_name t.look d.0.text d.1; found = with_faults t.found (clash (t.look d.0.text) d) }

abbrev pub with_entries : Told → List Entry → Told
with_entries t [] = t
with_entries t (d ∷ ds) = with_entries (with_entry t d) ds
