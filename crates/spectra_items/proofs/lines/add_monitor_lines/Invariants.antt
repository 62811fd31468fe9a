use Rattle.std.proofs.Common.{◌≡◌, ◌++◌, drop, map, flat_map}
use Rattle.spectra_trees.specs.Views.{part_data}
use Rattle.spectra_resolved.specs.Findings.{with_faults}
use Rattle.spectra_resolved.specs.Reports.{found_in}
use Rattle.spectra_resolved.specs.TextViews.{line_data}
use Rattle.spectra_items.specs.Meanings.{monitor_lines, monitor_faults}
use Rattle.spectra_items.specs.Steps.{look_by}
use Rattle.spectra_items.proofs.lines.add_monitor_lines.Given as goal

-- those so far and those of what is left are all
abbrev pub invariant-loop-part : goal.invariant-loop-part
invariant-loop-part l = record {
  same : map line_data l.all.items ++ flat_map (monitor_lines (look_by l.resolver) l.resolver.file l.monitor) (map part_data (drop l.part-index l.parts))
      ≡ map line_data l.fn.all.items ++ flat_map (monitor_lines (look_by l.resolver) l.resolver.file l.monitor) (map part_data l.parts);
  found : with_faults (found_in l.findings) (flat_map (monitor_faults (look_by l.resolver) l.resolver.file) (map part_data (drop l.part-index l.parts)))
      ≡ with_faults (found_in l.fn.findings) (flat_map (monitor_faults (look_by l.resolver) l.resolver.file) (map part_data l.parts));
}
