use Rattle.std.proofs.Common.{◌≡◌, ◌++◌, map, drop, is_some, IsTrue}
use Rattle.spectra_resolved.specs.Findings.{with_faults}
use Rattle.spectra_resolved.specs.Reports.{found_in}
use Rattle.spectra_resolved.specs.TextViews.{pattern_line_data}
use Rattle.spectra_lines.specs.Contents.{pattern_line_put}
use Rattle.spectra_lines.specs.Parts.{large_lines, room_behind_lines, put_lines}
use Rattle.spectra_lines.specs.Views.{facts_data, typed_data}
use Rattle.spectra_lines.proofs.reading.put_lines.Given as goal

-- what is left is found and put behind what was
abbrev pub invariant-loop-line : goal.invariant-loop-line
invariant-loop-line l =
    record {
      found : with_faults (found_in l.findings) (large_lines (typed_data l.typed) l.room (map (pattern_line_put (facts_data l.facts)) (map pattern_line_data (drop l.line-index l.typed.pattern.now.lines.items))))
          ≡ with_faults (found_in l.fn.findings) (large_lines (typed_data l.typed) l.fn.room (put_lines (facts_data l.facts) (typed_data l.typed)));
      room : room_behind_lines (typed_data l.typed) l.room (map (pattern_line_put (facts_data l.facts)) (map pattern_line_data (drop l.line-index l.typed.pattern.now.lines.items)))
          ≡ room_behind_lines (typed_data l.typed) l.fn.room (put_lines (facts_data l.facts) (typed_data l.typed));
      lines : IsTrue (is_some l.room) → map pattern_line_data l.lines.items ++ map (pattern_line_put (facts_data l.facts)) (map pattern_line_data (drop l.line-index l.typed.pattern.now.lines.items))
          ≡ put_lines (facts_data l.facts) (typed_data l.typed);
    }
