use Rattle.std.proofs.Common.{◌≡◌, ◌++◌, drop, map, flat_map}
use Rattle.spectra_resolved.specs.Findings.{with_faults}
use Rattle.spectra_resolved.specs.Reports.{found_in}
use Rattle.spectra_resolved.specs.LookViews.{scope_data}
use Rattle.spectra_resolved.specs.TextViews.{variable_data, alias_data, definition_data, pattern_data, line_data}
use Rattle.spectra_declared.specs.ItemViews.{filed_data}
use Rattle.spectra_items.specs.Meanings.{variables_in, aliases_in, definitions_in, patterns_in, lines_in, faults_in}
use Rattle.spectra_declared.proofs.text.text_of_items.Given as goal

-- what the items so far say and what those that are left say is all
abbrev pub invariant-loop-filed : goal.invariant-loop-filed
invariant-loop-filed l = record {
  names : map (λ name. name.now) l.text.names.items ≡ (scope_data l.scope).enums;
  variables : map variable_data l.text.variables.items ++ flat_map (λ i. variables_in (scope_data l.scope) i.0 i.1) (map filed_data (drop l.filed-index l.items))
      ≡ flat_map (λ i. variables_in (scope_data l.scope) i.0 i.1) (map filed_data l.items);
  types : map alias_data l.text.types.items ++ flat_map (λ i. aliases_in (scope_data l.scope) i.0 i.1) (map filed_data (drop l.filed-index l.items))
      ≡ flat_map (λ i. aliases_in (scope_data l.scope) i.0 i.1) (map filed_data l.items);
  definitions : map definition_data l.text.definitions.items ++ flat_map (λ i. definitions_in (scope_data l.scope) i.0 i.1) (map filed_data (drop l.filed-index l.items))
      ≡ flat_map (λ i. definitions_in (scope_data l.scope) i.0 i.1) (map filed_data l.items);
  patterns : map pattern_data l.text.patterns.items ++ flat_map (λ i. patterns_in (scope_data l.scope) i.0 i.1) (map filed_data (drop l.filed-index l.items))
      ≡ flat_map (λ i. patterns_in (scope_data l.scope) i.0 i.1) (map filed_data l.items);
  lines : map line_data l.text.lines.items ++ flat_map (λ i. lines_in (scope_data l.scope) i.0 i.1) (map filed_data (drop l.filed-index l.items))
      ≡ flat_map (λ i. lines_in (scope_data l.scope) i.0 i.1) (map filed_data l.items);
  found : with_faults (found_in l.findings) (flat_map (λ i. faults_in (scope_data l.scope) i.0 i.1) (map filed_data (drop l.filed-index l.items)))
      ≡ with_faults (found_in l.fn.findings) (flat_map (λ i. faults_in (scope_data l.scope) i.0 i.1) (map filed_data l.items));
}
