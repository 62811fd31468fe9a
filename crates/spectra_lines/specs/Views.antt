-- What the program's facts, patterns and parts of a text stand for.
use Rattle.std.specs.Prelude.{List, map}
use Rattle.std.specs.Borrow.{Bor}
use Rattle.spectra_resolved.specs.declared.tree.Resolved.{Resolved}
use Rattle.spectra_resolved.specs.Resolved.{ResolvedTree}
use Rattle.spectra_resolved.specs.Views.{resolved_data}
use Rattle.spectra_resolved.specs.TextViews.{pattern_data, line_data}
use Rattle.spectra_judge.specs.KindViews.{kind_data, known_data}
use Rattle.spectra_elaboration.specs.DefinitionViews.{definitions_data}
use Rattle.spectra_lines.specs.declared.facts.Facts as code
use Rattle.spectra_lines.specs.declared.order.Typed.{Typed}
use Rattle.spectra_lines.specs.declared.order.Part.{Part}
use Rattle.spectra_lines.specs.declared.order.Part.TheVariants as parts
use Rattle.spectra_lines.specs.Contents.{Facts}
use Rattle.spectra_lines.specs.Parts.{TypedPattern, TextPart, LinePart, PatternPart}

abbrev pub facts_data : code.Facts → Facts
facts_data f = record { known = known_data f.known; bodies = definitions_data f.definitions.now }

abbrev pub trees_data : List (Bor Resolved) → List ResolvedTree
trees_data ts = map (λ t. resolved_data t.now) ts

abbrev pub typed_data : Typed → TypedPattern
typed_data p = record { sound = p.sound; own = map kind_data p.own.items; pattern = pattern_data p.pattern.now }

abbrev pub part_data : Part → TextPart
part_data (parts.Line l) = LinePart (line_data l.now)
part_data (parts.Pattern p) = PatternPart (typed_data p.now)
