use Rattle.std.proofs.Common.{◌≡◌, ◌++◌, map, drop}
use Rattle.spec_model.specs.Views.{pattern_data as model_pattern}
use Rattle.spectra_resolved.specs.Findings.{with_faults}
use Rattle.spectra_resolved.specs.Reports.{found_in}
use Rattle.spectra_resolved.specs.TextViews.{line_data}
use Rattle.spectra_lines.specs.Parts.{parts_faults, parts_lines, parts_patterns}
use Rattle.spectra_lines.specs.Said.{all_room}
use Rattle.spectra_lines.specs.Steps.{ArePartsSound}
use Rattle.spectra_lines.specs.Views.{facts_data, part_data}
use Rattle.spectra_lines.proofs.reading.read_parts.Given as goal

-- what is left is found and read behind what was
abbrev pub invariant-loop-part : goal.invariant-loop-part
invariant-loop-part l =
    record {
      sound : ArePartsSound (facts_data l.facts) (map part_data (drop l.part-index l.parts));
      found : with_faults (found_in l.findings) (parts_faults (facts_data l.facts) l.read.room (map part_data (drop l.part-index l.parts))) ≡ with_faults (found_in l.fn.findings) (parts_faults (facts_data l.facts) all_room (map part_data l.parts));
      lines : map line_data l.read.lines.items ++ parts_lines (facts_data l.facts) l.read.room (map part_data (drop l.part-index l.parts)) ≡ parts_lines (facts_data l.facts) all_room (map part_data l.parts);
      patterns : map model_pattern l.read.patterns.items ++ parts_patterns (facts_data l.facts) l.read.room (map part_data (drop l.part-index l.parts)) ≡ parts_patterns (facts_data l.facts) all_room (map part_data l.parts);
    }
