use Rattle.std.proofs.Common.{◌≡◌, ◌++◌, drop, map, flat_map}
use Rattle.spectra_trees.specs.Data.{TypeData, NameData}
use Rattle.spectra_resolved.specs.Findings.{with_faults}
use Rattle.spectra_resolved.specs.Reports.{found_in}
use Rattle.spectra_items.specs.Steps.{names_by, look_by}
use Rattle.spectra_items.specs.ItemViews.{parameters_data}
use Rattle.spectra_items.specs.Types.{type_of, type_faults}
use Rattle.spectra_resolved.specs.TextViews.{type_data}
use Rattle.spectra_items.proofs.definitions.parameter_types.Given as goal

-- those so far and those of what is left are all
abbrev pub invariant-loop-param : goal.invariant-loop-param
invariant-loop-param l = record {
  same : map type_data l.all.items
      ++ map (λ (a : TypeData × NameData). type_of (names_by l.resolver) (look_by l.resolver) l.resolver.file a.0) (parameters_data (drop l.param-index l.params))
      ≡ map (λ (a : TypeData × NameData). type_of (names_by l.resolver) (look_by l.resolver) l.resolver.file a.0) (parameters_data l.params);
  found : with_faults (found_in l.findings) (flat_map (λ (a : TypeData × NameData). type_faults (names_by l.resolver) (look_by l.resolver) l.resolver.file a.0) (parameters_data (drop l.param-index l.params)))
      ≡ with_faults (found_in l.fn.findings) (flat_map (λ (a : TypeData × NameData). type_faults (names_by l.resolver) (look_by l.resolver) l.resolver.file a.0) (parameters_data l.params));
}
