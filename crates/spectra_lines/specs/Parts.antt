-- The lines of a text and its patterns, in text order, and what they are found to be.
use Rattle.spectra_trees.specs.Faults.{TooLarge, number_of}
use Rattle.std.specs.Prelude.{ℕ, Bool, ◌&&◌, if◌then◌else◌, List, [], ◌∷◌, ◌++◌, map, take, drop, Option, is_some, option_to_list}
use Rattle.std.specs.List.{prefix_len}
use Rattle.spec_model.specs.Syntax.{PatternData}
use Rattle.spectra_resolved.specs.declared.spot.Spot.{Spot}
use Rattle.spectra_resolved.specs.declared.findings.Finding.{Finding}
use Rattle.spectra_resolved.specs.Texts.{ResolvedPatternLine, ResolvedPattern, ResolvedLine}
use Rattle.spectra_judge.specs.Findings.{fault_if}
use Rattle.spectra_judge.specs.Kinds.{Kind}
use Rattle.spectra_judge.specs.Around.{comes_before}
use Rattle.spectra_judge.specs.Known.{Known}
use Rattle.spectra_patterns.specs.Patterns.{pattern_known, line_at, line_tree, is_empty, lines_faults, pattern_faults, meant}
use Rattle.spectra_lines.specs.Contents.{Facts, line_put, pattern_put}
use Rattle.spectra_lines.specs.Limits.{behind, room_behind, is_small, is_too_large}
use Rattle.spectra_lines.specs.Lines.{put_trees, line_faults}

-- ---- text order

-- A pattern with the kinds of its own variables. It is sound where its names and types have no fault.
pub record TypedPattern : Type 0 where
  pub sound : Bool
  pub own : List Kind
  pub pattern : ResolvedPattern

-- what has nodes in a text
pub data TextPart : Type 0 where
  LinePart : ResolvedLine → TextPart
  PatternPart : TypedPattern → TextPart

-- how many of these patterns come before a place
abbrev pub leading : Spot → List TypedPattern → ℕ
leading at ps = prefix_len (λ (p : TypedPattern). comes_before p.pattern.name.at at) ps

-- before each line stand the patterns that come before it
abbrev pub in_text_order : List TypedPattern → List ResolvedLine → List TextPart
in_text_order ps [] = map PatternPart ps
in_text_order ps (l ∷ ls) = map PatternPart (take (leading l.at ps) ps) ++ (LinePart l ∷ in_text_order (drop (leading l.at ps) ps) ls)

-- ---- the lines of a pattern, with everything put in

-- what is known of the names in a pattern
abbrev pub known_inside : TypedPattern → Known
known_inside p = pattern_known p.pattern.params p.own

abbrev pub line_room : TypedPattern → Option ℕ → ResolvedPatternLine → Option ℕ
line_room p room l = behind (known_inside p) p.pattern.params room (line_tree l)

abbrev pub large_line : TypedPattern → Option ℕ → ResolvedPatternLine → List Finding
large_line p room l = fault_if (is_too_large (known_inside p) p.pattern.params room (line_tree l ∷ [])) (number_of TooLarge) (line_at l)

abbrev pub large_lines : TypedPattern → Option ℕ → List ResolvedPatternLine → List Finding
large_lines p room [] = []
large_lines p room (l ∷ ls) = large_line p room l ++ large_lines p (line_room p room l) ls

abbrev pub room_behind_lines : TypedPattern → Option ℕ → List ResolvedPatternLine → Option ℕ
room_behind_lines p room [] = room
room_behind_lines p room (l ∷ ls) = room_behind_lines p (line_room p room l) ls

abbrev pub put_lines : Facts → TypedPattern → List ResolvedPatternLine
put_lines f p = (pattern_put f p.pattern).lines

-- no line of it is too large
abbrev pub is_whole : Facts → Option ℕ → TypedPattern → Bool
is_whole f room p = is_some (room_behind_lines p room (put_lines f p))

-- ---- one part, by the room that is left for its nodes

abbrev pub part_room : Facts → Option ℕ → TextPart → Option ℕ
part_room f room (LinePart l) = room_behind f.known 0 room (put_trees f l)
part_room f room (PatternPart p) = room_behind_lines p room (put_lines f p)

-- its names and types have no fault, nor have its lines as they are written
abbrev pub is_sound : TypedPattern → Bool
is_sound p = p.sound && is_empty (lines_faults p.own p.pattern)

-- A pattern with a line that is too large isn't looked at with everything put in.
abbrev pub part_faults : Facts → Option ℕ → TextPart → List Finding
part_faults f room (LinePart l) = line_faults f room l
part_faults f room (PatternPart p) =
    lines_faults p.own p.pattern
    ++ (large_lines p room (put_lines f p) ++ (if is_whole f room p then pattern_faults (is_sound p) p.own (pattern_put f p.pattern) else []))

-- a line with everything put in, unless it is too large
abbrev pub part_lines : Facts → Option ℕ → TextPart → List ResolvedLine
part_lines f room (LinePart l) = if is_small f.known 0 room (put_trees f l) then line_put f l ∷ [] else []
part_lines f room (PatternPart p) = []

-- what a pattern means, unless it has a fault
abbrev pub part_patterns : Facts → Option ℕ → TextPart → List PatternData
part_patterns f room (LinePart l) = []
part_patterns f room (PatternPart p) = if is_whole f room p then option_to_list (meant (is_sound p) p.own (pattern_put f p.pattern)) else []

-- ---- all parts

-- what each part gives, by the room that those before it leave
abbrev pub through : {A : Type 0} → Facts → (Option ℕ → TextPart → List A) → Option ℕ → List TextPart → List A
through f each room [] = []
through f each room (p ∷ ps) = each room p ++ through f each (part_room f room p) ps

abbrev pub parts_faults : Facts → Option ℕ → List TextPart → List Finding
parts_faults f room ps = through f (part_faults f) room ps

abbrev pub parts_lines : Facts → Option ℕ → List TextPart → List ResolvedLine
parts_lines f room ps = through f (part_lines f) room ps

abbrev pub parts_patterns : Facts → Option ℕ → List TextPart → List PatternData
parts_patterns f room ps = through f (part_patterns f) room ps
