use Rattle.std.proofs.Common.{◌≡◌, ◌++◌, drop, map}
use Rattle.spectra_resolved.specs.Texts.{ResolvedDefinition}
use Rattle.spectra_resolved.specs.TextViews.{definition_data}
use Rattle.spectra_bodies.proofs.definitions.places_of.Given as goal

-- those so far and those of what is left are all
abbrev pub invariant-loop-definition : goal.invariant-loop-definition
invariant-loop-definition l =
    l.places.items ++ map (λ (d : ResolvedDefinition). d.name.at) (map definition_data (drop l.definition-index l.definitions)) ≡ map (λ (d : ResolvedDefinition). d.name.at) (map definition_data l.definitions)
