-- What is put in for definitions, and the faults of an expression in which everything is put in.
use Rattle.std.specs.Prelude.{ℕ, nat_le, Bool, true, if◌then◌else◌, List, [], Option, Some, None, map, get_or}
use Rattle.std.specs.List.{enumerate_from}
use Rattle.spectra_resolved.specs.declared.stand.Stand.{Stand}
use Rattle.spectra_resolved.specs.declared.findings.Finding.{Finding}
use Rattle.spectra_resolved.specs.Resolved.{ResolvedTree}
use Rattle.spectra_resolved.specs.Texts.{ResolvedDefinition, ResolvedText}
use Rattle.spectra_judge.specs.Known.{Known}
use Rattle.spectra_judge.specs.Judged.{faults_of}
use Rattle.spectra_holes.specs.Holed.{holed}
use Rattle.spectra_elaboration.specs.Putting.{Bodies, put_in}
use Rattle.spectra_copies.specs.Levels.{within_limits}
use Rattle.spectra_cases.specs.Formulas.{formula_of}
use Rattle.spectra_cases.specs.Sizes.{size_of}
use Rattle.spectra_notes.specs.Notes.{stand_of, known_inside, noted}

-- ---- bodies

-- the body of a definition as it is put in, where the definition has a meaning
abbrev pub body_with : Known → (hole : Bool) → ResolvedDefinition → Option ResolvedTree
body_with known hole d = if hole then None else Some (holed known (stand_of d.word) d.body)

-- the body of a definition of a text, with its number
abbrev pub numbered_body : ResolvedText → ℕ × ResolvedDefinition → Option ResolvedTree
numbered_body text d = body_with (known_inside text (noted text).defines d.1) (get_or (noted text).holes d.0 true) d.1

-- the bodies of a text's definitions
abbrev pub bodies : ResolvedText → Bodies
bodies text = map (numbered_body text) (enumerate_from 0 text.definitions)

-- ---- faults

-- the most nodes, and the most levels, of what is judged
abbrev pub most_nodes : ℕ
most_nodes = 1_000_000

abbrev pub most_levels : ℕ
most_levels = 512

-- whether the formula of an expression has few levels, where each operator is one
abbrev pub is_shallow : Known → ResolvedTree → Bool
is_shallow known t = nat_le (size_of (formula_of known 0 t)).levels most_levels

-- the faults of what was made where there was room
abbrev pub made_faults : Known → Stand → Option ResolvedTree → List Finding
made_faults known st (Some t) = if is_shallow known t then faults_of known st t else []
made_faults known st None = []

-- the faults of an expression that stands there, with everything put in for its names, where that isn't too large
unfoldable pub put_in_faults : Bodies → Known → Stand → ResolvedTree → List Finding
put_in_faults b known st t = made_faults known st (within_limits most_nodes most_levels (put_in b (holed known st t)))
