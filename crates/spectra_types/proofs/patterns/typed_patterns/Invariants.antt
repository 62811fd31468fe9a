use Rattle.std.proofs.Common.{◌≡◌, ◌++◌, drop, map}
use Rattle.spectra_resolved.specs.TextViews.{text_data, pattern_data}
use Rattle.spectra_lines.specs.Views.{typed_data}
use Rattle.spectra_types.specs.Meanings.{typed_pattern, typed_patterns}
use Rattle.spectra_types.proofs.patterns.typed_patterns.Given as goal

-- those so far and those that are left are all
abbrev pub invariant-loop-pattern : goal.invariant-loop-pattern
invariant-loop-pattern l =
    map typed_data l.all.items ++ map (typed_pattern (text_data l.text)) (map pattern_data (drop l.pattern-index l.text.patterns.items)) ≡ typed_patterns (text_data l.text)
