use Rattle.std.proofs.Common.{◌≡◌, ◌++◌, drop, map, flat_map, replicate}
use Rattle.spectra_resolved.specs.Texts.{ResolvedVariable}
use Rattle.spectra_resolved.specs.TextViews.{variable_data}
use Rattle.spectra_notes.specs.TypeKinds.{is_of_system}
use Rattle.spectra_notes.proofs.kinds.system.Given as goal

-- those so far and those of what is left are all
abbrev pub invariant-loop-variable : goal.invariant-loop-variable
invariant-loop-variable l =
    l.all.items ++ flat_map (λ (v : ResolvedVariable). replicate v.count (is_of_system v.owner)) (map variable_data (drop l.variable-index l.variables)) ≡ flat_map (λ (v : ResolvedVariable). replicate v.count (is_of_system v.owner)) (map variable_data l.variables)
