-- The places of what is put in.
use Rattle.std.specs.Prelude.{Option, Some, None}
use Rattle.spectra_resolved.specs.declared.spot.Spot.{Spot}
use Rattle.spectra_resolved.specs.declared.spot.Mark.{Mark}
use Rattle.spectra_resolved.specs.Spots.{brought_at}

-- In a line each part stays where it is. All parts of a body stand at the name in the line that brings it.
abbrev pub placed : (brought : Option Spot) → Spot → Spot
placed (Some name) at = name
placed None at = at

-- so does a part with its mark, which says then that a body brings it
abbrev pub marked : (brought : Option Spot) → Mark → Mark
marked (Some name) at = brought_at name
marked None at = at
