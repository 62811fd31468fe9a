-- What the program puts in.
use Rattle.std.specs.Prelude.{List, Option, map, option_map}
use Rattle.spectra_resolved.specs.declared.tree.Resolved.{Resolved}
use Rattle.spectra_resolved.specs.Views.{resolved_data}
use Rattle.spectra_elaboration.specs.Putting.{Bodies}

abbrev pub bodies_data : List (Option Resolved) → Bodies
bodies_data bs = map (λ b. option_map resolved_data b) bs
