-- All faults of several files, and the specification that files without one mean. The main file is the last.
use Rattle.std.specs.Prelude.{ℕ, Bool, not, ◌&&◌, if◌then◌else◌, List, ◌∷◌, ◌++◌, map, flat_map, ◌≡◌, []}
use Rattle.std.specs.Fmt.{decimal}
use Rattle.std.specs.List.{list_all}
use Rattle.spec_model.specs.Syntax.{VariableData, Specification}
use Rattle.spectra_trees.specs.Data.{TreeData}
use Rattle.spectra_resolved.specs.declared.findings.Finding.{Finding}
use Rattle.spectra_resolved.specs.Texts.{ResolvedVariable, ResolvedPattern, ResolvedText}
use Rattle.spectra_declared.specs.Wholes.{text_of}
use Rattle.spectra_declared.specs.Wholes as names
use Rattle.spectra_judge.specs.Kinds.{Kind}
use Rattle.spectra_judge.specs.PutIn.{has_room}
use Rattle.spectra_copies.specs.Texts.{written_text}
use Rattle.spectra_bounds.specs.Numbers.{constants}
use Rattle.spectra_cases.specs.Formulas.{numbers_below}
use Rattle.spectra_notes.specs.TypeKinds.{kind_in}
use Rattle.spectra_notes.specs.Notes.{noted, known_in_line}
use Rattle.spectra_bodies.specs.PutIn.{bodies}
use Rattle.spectra_bodies.specs.Faults.{declared_faults}
use Rattle.spectra_patterns.specs.Patterns.{domain_of}
use Rattle.spectra_lines.specs.Contents.{Facts}
use Rattle.spectra_lines.specs.Parts.{TypedPattern}
use Rattle.spectra_lines.specs.Said.{lines_faults, lines_meant, triggers_meant, patterns_meant}

-- ---- what lines and patterns are judged by

abbrev pub facts_of : ResolvedText → Facts
facts_of text = record { known = known_in_line (noted text); bodies = bodies text }

-- the kinds of a pattern's own variables
abbrev pub own_kinds : ResolvedText → ResolvedPattern → List Kind
own_kinds text p = map (kind_in text) p.own

-- No name stands twice in it, and each of its own variables has a type, whose enum names have numbers of 16 bits.
abbrev pub is_sound : ResolvedText → ResolvedPattern → Bool
is_sound text p = not p.doubled && list_all has_room (own_kinds text p)

abbrev pub typed_pattern : ResolvedText → ResolvedPattern → TypedPattern
typed_pattern text p = record { sound = is_sound text p; own = own_kinds text p; pattern = p }

abbrev pub typed_patterns : ResolvedText → List TypedPattern
typed_patterns text = map (typed_pattern text) text.patterns

-- ---- faults

-- the faults of types and of definitions, of lines and of patterns
abbrev pub text_faults : ResolvedText → List Finding
text_faults text = declared_faults text ++ lines_faults (facts_of text) (typed_patterns text) text.lines

-- what several files declare and say, with quantifiers written out whose bounds have numbers, as long as there is room
abbrev pub written_out : ResolvedText → ResolvedText
written_out text = written_text (constants text.definitions).numbers text

abbrev pub judged_text : List TreeData → ResolvedText
judged_text trees = written_out (text_of trees)

-- every fault of several files: those of names, and these
abbrev pub faults_of : List TreeData → List Finding
faults_of trees = names.faults_of trees ++ text_faults (judged_text trees)

-- ---- meanings

-- the name of a variable, or of an array's numbered element: the number stands in brackets
abbrev pub element_name : ResolvedVariable → ℕ → List ℕ
element_name v i = if v.array then v.name.text ++ (91 ∷ decimal i ++ 93 ∷ []) else v.name.text

abbrev pub element_of : ResolvedText → ResolvedVariable → ℕ → VariableData
element_of text v i = record { name = element_name v i; owner = v.owner; domain = domain_of (kind_in text v.domain) }

-- a variable, or the elements of an array in their order
abbrev pub variables_in : ResolvedText → ResolvedVariable → List VariableData
variables_in text v = map (element_of text v) (numbers_below 0 v.count)

abbrev pub specification_of : ResolvedText → Specification
specification_of text =
    record {
      names = text.names;
      variables = flat_map (variables_in text) text.variables;
      patterns = patterns_meant (facts_of text) (typed_patterns text) text.lines;
      triggers = triggers_meant (facts_of text) (typed_patterns text) text.lines;
      lines = lines_meant (facts_of text) (typed_patterns text) text.lines;
    }

-- what several files without a fault mean
abbrev pub meaning_of : List TreeData → Specification
meaning_of trees = specification_of (judged_text trees)

-- ---- what files mean

-- the files have no fault, and mean this
pub record Means (trees : List TreeData) (s : Specification) : Type 0 where
  pub faultless : faults_of trees ≡ []
  pub meaning : s ≡ meaning_of trees
