use Rattle.std.proofs.Common.{◌≡◌, ◌++◌, map, drop}
use Rattle.spectra_lines.specs.Parts.{PatternPart}
use Rattle.spectra_lines.specs.Views.{typed_data, part_data}
use Rattle.spectra_lines.proofs.order.add_patterns.Given as goal

-- those so far and those that are left are all
abbrev pub invariant-loop-typed : goal.invariant-loop-typed
invariant-loop-typed l = map part_data l.parts.items ++ map PatternPart (map typed_data (drop l.typed-index l.patterns)) ≡ map part_data l.fn.parts.items ++ map PatternPart (map typed_data l.patterns)
