use Rattle.std.proofs.Common.{◌≡◌, ◌++◌, drop, map}
use Rattle.spectra_resolved.specs.Texts.{ResolvedDefinition}
use Rattle.spectra_resolved.specs.TextViews.{definition_data, alias_data}
use Rattle.spectra_judge.specs.KindViews.{kind_data}
use Rattle.spectra_bounds.specs.Types.{type_kind}
use Rattle.spectra_bounds.specs.TypeViews.{constants_data}
use Rattle.spectra_notes.proofs.kinds.predicate_kinds.Given as goal

-- those so far and those of what is left are all
abbrev pub invariant-loop-definition : goal.invariant-loop-definition
invariant-loop-definition l =
    map (λ ks. map kind_data ks.items) l.all.items ++ map (λ (d : ResolvedDefinition). map (type_kind (constants_data l.constants) (map alias_data l.types)) d.params) (map definition_data (drop l.definition-index l.definitions)) ≡ map (λ (d : ResolvedDefinition). map (type_kind (constants_data l.constants) (map alias_data l.types)) d.params) (map definition_data l.definitions)
