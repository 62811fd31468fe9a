use Rattle.std.proofs.Common.{◌≡◌, map}
use Rattle.spectra_resolved.specs.TextViews.{type_data, alias_data}
use Rattle.spectra_bounds.specs.Types.{meant_within}
use Rattle.spectra_bounds.proofs.types.kind_within.Given as goal

-- what is left of the names leads to the same type
abbrev pub invariant-names : goal.invariant-names
invariant-names l = meant_within l.left (map alias_data l.types) (type_data l.meant) ≡ meant_within l.steps (map alias_data l.types) (type_data l.t)

abbrev pub decreases-names : goal.decreases-names
decreases-names l = l.left
