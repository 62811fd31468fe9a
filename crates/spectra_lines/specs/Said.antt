-- All that the lines and patterns of a text say, and every fault of them.
use Rattle.std.specs.Prelude.{ℕ, Option, Some, List, [], ◌++◌, map}
use Rattle.spec_model.specs.Syntax.{Statement, PatternData, TriggerData}
use Rattle.spectra_resolved.specs.declared.findings.Finding.{Finding}
use Rattle.spectra_resolved.specs.Texts.{ResolvedLine}
use Rattle.spectra_lines.specs.Contents.{Facts}
use Rattle.spectra_lines.specs.Limits.{most_nodes}
use Rattle.spectra_lines.specs.Parts.{TypedPattern, in_text_order, parts_faults, parts_lines, parts_patterns}
use Rattle.spectra_lines.specs.Meanings.{statements, triggers}
use Rattle.spectra_patterns.specs.Hidden.{hidden_faults}

-- at first there is room for the most nodes
abbrev pub all_room : Option ℕ
all_room = Some most_nodes

-- the lines that aren't too large, with everything put in
abbrev pub small_lines : Facts → List TypedPattern → List ResolvedLine → List ResolvedLine
small_lines f ps ls = parts_lines f all_room (in_text_order ps ls)

-- what is too large isn't looked at for past operators: its own fault stands at the same place
abbrev pub tables_faults : Facts → List ResolvedLine → List Finding
tables_faults f ls = hidden_faults (triggers f.known ls) [] (map (λ (l : ResolvedLine). l.item) ls) (statements f.known ls)

-- every fault of lines and patterns
abbrev pub lines_faults : Facts → List TypedPattern → List ResolvedLine → List Finding
lines_faults f ps ls = parts_faults f all_room (in_text_order ps ls) ++ tables_faults f (small_lines f ps ls)

-- what they mean; where no line is too large, these are all lines
abbrev pub lines_meant : Facts → List TypedPattern → List ResolvedLine → List Statement
lines_meant f ps ls = statements f.known (small_lines f ps ls)

abbrev pub triggers_meant : Facts → List TypedPattern → List ResolvedLine → List TriggerData
triggers_meant f ps ls = triggers f.known (small_lines f ps ls)

abbrev pub patterns_meant : Facts → List TypedPattern → List ResolvedLine → List PatternData
patterns_meant f ps ls = parts_patterns f all_room (in_text_order ps ls)
