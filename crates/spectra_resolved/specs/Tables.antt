-- What tables of names have.
use Rattle.std.specs.Prelude.{ℕ, List, Option, bytes_eq}
use Rattle.indexmap.specs.IndexMap.{get_by}
use Rattle.spectra_resolved.specs.declared.table.Named.{Named}
use Rattle.spectra_resolved.specs.declared.table.Table.{Table}
use Rattle.spectra_resolved.specs.declared.findings.Findings.{Findings}
use Rattle.spectra_resolved.specs.Reports.{found_in}
use Rattle.spectra_resolved.specs.SpaceViews.{Told}

-- what a table has for a name
abbrev pub in_table : Table → List ℕ → Option Named
in_table t text = get_by (λ k. bytes_eq text k.now) t.entries

abbrev pub told : Table → Findings → Told
told t f = record { look = λ text. in_table t text; found = found_in f }
