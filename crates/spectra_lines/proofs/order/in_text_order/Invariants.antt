use Rattle.std.proofs.Common.{◌≡◌, ◌≤◌, ◌++◌, length, map, drop}
use Rattle.spectra_resolved.specs.TextViews.{line_data}
use Rattle.spectra_lines.specs.Parts.{in_text_order}
use Rattle.spectra_lines.specs.Views.{typed_data, part_data}
use Rattle.spectra_lines.proofs.order.in_text_order.Given as goal

-- those so far and those that are left are all
abbrev pub invariant-loop-line : goal.invariant-loop-line
invariant-loop-line l =
    record {
      within : l.next ≤ length l.patterns;
      all : map part_data l.parts.items ++ in_text_order (map typed_data (drop l.next l.patterns)) (map line_data (drop l.line-index l.lines)) ≡ in_text_order (map typed_data l.patterns) (map line_data l.lines);
    }
