-- The room that is left behind formulas of expressions that are put in.
use Rattle.std.specs.Prelude.{ℕ, ◌-◌, nat_le, ◌&&◌, if◌then◌else◌, List, [], ◌∷◌, Option, Some, None}
use Rattle.spectra_resolved.specs.Resolved.{ResolvedTree}
use Rattle.spectra_judge.specs.Known.{Known}
use Rattle.spectra_cases.specs.Formulas.{formula_of}
use Rattle.spectra_cases.specs.Sizes.{SizeOf, size_of}
use Rattle.spectra_lines.specs.Limits.{most_levels}

-- where there is room for its nodes and it hasn't too many levels
abbrev pub behind_size : ℕ → SizeOf → Option ℕ
behind_size room s = if nat_le s.levels most_levels && nat_le s.nodes room then Some (room - s.nodes) else None

abbrev pub behind_formulas : Known → Option ℕ → List ResolvedTree → Option ℕ
behind_formulas known None ts = None
behind_formulas known (Some room) [] = Some room
behind_formulas known (Some room) (t ∷ ts) = behind_formulas known (behind_size room (size_of (formula_of known 0 t))) ts
