use Rattle.std.proofs.Common.{◌≡◌, ◌++◌, drop, map, flat_map, replicate}
use Rattle.spectra_resolved.specs.Texts.{ResolvedVariable}
use Rattle.spectra_resolved.specs.TextViews.{variable_data, alias_data}
use Rattle.spectra_judge.specs.KindViews.{kind_data}
use Rattle.spectra_bounds.specs.Types.{type_kind}
use Rattle.spectra_bounds.specs.TypeViews.{constants_data}
use Rattle.spectra_notes.proofs.kinds.variable_kinds.Given as goal

-- those so far and those of what is left are all
abbrev pub invariant-loop-variable : goal.invariant-loop-variable
invariant-loop-variable l =
    map kind_data l.kinds.items ++ flat_map (λ (v : ResolvedVariable). replicate v.count (type_kind (constants_data l.constants) (map alias_data l.types) v.domain)) (map variable_data (drop l.variable-index l.variables)) ≡ flat_map (λ (v : ResolvedVariable). replicate v.count (type_kind (constants_data l.constants) (map alias_data l.types) v.domain)) (map variable_data l.variables)
