use Rattle.std.proofs.Common.{◌≡◌, ◌++◌, drop, map}
use Rattle.spectra_resolved.specs.TextViews.{type_data, alias_data}
use Rattle.spectra_judge.specs.KindViews.{kind_data}
use Rattle.spectra_bounds.specs.Types.{type_kind}
use Rattle.spectra_bounds.specs.TypeViews.{constants_data}
use Rattle.spectra_notes.proofs.kinds.kinds_of.Given as goal

-- those so far and those of what is left are all
abbrev pub invariant-loop-t : goal.invariant-loop-t
invariant-loop-t l =
    map kind_data l.kinds.items ++ map (type_kind (constants_data l.constants) (map alias_data l.types)) (map type_data (drop l.t-index l.ts)) ≡ map (type_kind (constants_data l.constants) (map alias_data l.types)) (map type_data l.ts)
