-- What a judge of parts of the guarantees is seen as.
use Rattle.std.specs.Prelude.{ℕ, List, Option}
use Rattle.std.specs.Option.{option_map}
use Rattle.spec_model.specs.Views.{spec_data}
use Rattle.spec_model.specs.Syntax.{Specification}
use Rattle.regions.specs.declared.types.Halt.{Halt}
use Rattle.solve.specs.declared.parts.Parts.{Parts}
use Rattle.solve.specs.Places.{part_at}

-- the specification whose guarantees are judged
abbrev pub whole_of : Parts → Specification
whole_of p = spec_data p.spec.now

-- the last fault, with the places of the part that it was answered for
abbrev pub last_of : Parts → Option (Halt × List ℕ)
last_of p = option_map (λ fault. (fault, p.asked.items)) p.fault
