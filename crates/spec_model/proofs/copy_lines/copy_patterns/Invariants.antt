use Rattle.std.proofs.Common.{◌≡◌, map, take}
use Rattle.spec_model.specs.Views.{pattern_data}
use Rattle.spec_model.proofs.copy_lines.copy_patterns.Given as goal

abbrev pub invariant-loop-pattern : goal.invariant-loop-pattern
invariant-loop-pattern l = map pattern_data l.copies.items ≡ map pattern_data (take l.pattern-index l.patterns)
