use Rattle.std.proofs.Common.{◌≡◌, ◌++◌, drop, map, flat_map}
use Rattle.spectra_trees.specs.Views.{part_data}
use Rattle.spectra_resolved.specs.Findings.{with_faults}
use Rattle.spectra_resolved.specs.Reports.{found_in}
use Rattle.spectra_resolved.specs.TextViews.{type_data, pattern_line_data}
use Rattle.spectra_items.specs.Meanings.{own_types, pattern_lines, part_faults}
use Rattle.spectra_items.specs.Steps.{names_by, look_by}
use Rattle.spectra_items.proofs.patterns.add_parts.Given as goal

-- those so far and those of what is left are all
abbrev pub invariant-loop-part : goal.invariant-loop-part
invariant-loop-part l = record {
  own : map type_data l.own.items ++ flat_map (own_types (names_by l.resolver) (look_by l.resolver) l.resolver.file) (map part_data (drop l.part-index l.parts))
      ≡ map type_data l.fn.own.items ++ flat_map (own_types (names_by l.resolver) (look_by l.resolver) l.resolver.file) (map part_data l.parts);
  lines : map pattern_line_data l.lines.items ++ flat_map (pattern_lines (look_by l.resolver) l.resolver.file) (map part_data (drop l.part-index l.parts))
      ≡ map pattern_line_data l.fn.lines.items ++ flat_map (pattern_lines (look_by l.resolver) l.resolver.file) (map part_data l.parts);
  found : with_faults (found_in l.findings) (flat_map (part_faults (names_by l.resolver) (look_by l.resolver) l.resolver.file) (map part_data (drop l.part-index l.parts)))
      ≡ with_faults (found_in l.fn.findings) (flat_map (part_faults (names_by l.resolver) (look_by l.resolver) l.resolver.file) (map part_data l.parts));
}
