use Rattle.std.proofs.Common.{◌≡◌, ◌++◌, drop, map}
use Rattle.spectra_resolved.specs.Texts.{ResolvedAlias}
use Rattle.spectra_resolved.specs.TextViews.{alias_data}
use Rattle.spectra_bounds.specs.Cycles.{type_uses}
use Rattle.spectra_bounds.proofs.cycles.uses_of_types.Given as goal

-- those so far and those of what is left are all
abbrev pub invariant-loop-alias : goal.invariant-loop-alias
invariant-loop-alias l =
    map (λ uses. uses.items) l.all.items ++ map (λ (a : ResolvedAlias). type_uses a.body) (map alias_data (drop l.alias-index l.types))
    ≡ map (λ (a : ResolvedAlias). type_uses a.body) (map alias_data l.types)
