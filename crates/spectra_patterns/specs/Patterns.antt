-- The faults of a pattern, and the pattern of the specification that it means.
use Rattle.spectra_trees.specs.Faults.{PatternOpen, PatternWide, number_of}
use Rattle.std.specs.Prelude.{ℕ, Bool, true, false, ◌&&◌, if◌then◌else◌, List, [], ◌∷◌, ◌++◌, Option, Some, None, option_map, option_to_list, map, flat_map, replicate}
use Rattle.spec_model.specs.Values.{DomainData, TruthValues, WholeNumbers, Enumeration}
use Rattle.spec_model.specs.Syntax.{Formula, PatternData}
use Rattle.spec_model.specs.Patterns.{is_determined}
use Rattle.pattern_rows.specs.Rows.{is_wide}
use Rattle.spectra_resolved.specs.declared.spot.Spot.{Spot}
use Rattle.spectra_resolved.specs.declared.stand.Stand.{Stand}
use Rattle.spectra_resolved.specs.declared.stand.Stand.TheVariants as stand
use Rattle.spectra_resolved.specs.declared.findings.Finding.{Finding}
use Rattle.spectra_resolved.specs.Findings.{fault}
use Rattle.spectra_resolved.specs.Resolved.{ResolvedTree}
use Rattle.spectra_resolved.specs.Texts.{ResolvedPatternLine, Initial, Safety, Recurring, ResolvedPattern}
use Rattle.spectra_judge.specs.Kinds.{Kind, Truth, Whole, NameOf}
use Rattle.spectra_judge.specs.Known.{Known}
use Rattle.spectra_judge.specs.Judged.{faults_of}
use Rattle.spectra_cases.specs.Formulas.{formula_of}

-- ---- lines

-- in a pattern nothing is known but its parameters, which are truth values, and its own variables, by their kinds
abbrev pub pattern_known : (params : ℕ) → (own : List Kind) → Known
pattern_known params own =
    record { variables = []; system = []; defines = []; predicates = []; parameters = replicate params Truth; own = own }

abbrev pub line_stand : ResolvedPatternLine → Stand
line_stand (Initial at t) = stand.PatternInitial
line_stand (Safety at t) = stand.PatternSafety
line_stand (Recurring at t) = stand.PatternRecurring

abbrev pub line_at : ResolvedPatternLine → Spot
line_at (Initial at t) = at
line_at (Safety at t) = at
line_at (Recurring at t) = at

abbrev pub line_tree : ResolvedPatternLine → ResolvedTree
line_tree (Initial at t) = t
line_tree (Safety at t) = t
line_tree (Recurring at t) = t

abbrev pub line_faults : Known → ResolvedPatternLine → List Finding
line_faults known l = faults_of known (line_stand l) (line_tree l)

-- the faults of all its lines, each where it stands
abbrev pub lines_faults : List Kind → ResolvedPattern → List Finding
lines_faults own p = flat_map (line_faults (pattern_known p.params own)) p.lines

-- a pattern with other lines
abbrev pub with_lines : ResolvedPattern → List ResolvedPatternLine → ResolvedPattern
with_lines p lines = record p { lines = lines }

-- ---- what it means

-- the domain of a variable of a kind
abbrev pub domain_of : Kind → DomainData
domain_of (Whole low high) = WholeNumbers low high
domain_of (NameOf names) = Enumeration names
domain_of _ = TruthValues

abbrev pub first_in : Known → (params : ℕ) → ResolvedPatternLine → List Formula
first_in known params (Initial at t) = formula_of known params t ∷ []
first_in known params _ = []

abbrev pub step_in : Known → (params : ℕ) → ResolvedPatternLine → List Formula
step_in known params (Safety at t) = formula_of known params t ∷ []
step_in known params _ = []

abbrev pub goals_in : Known → (params : ℕ) → ResolvedPatternLine → List Formula
goals_in known params (Recurring at t) = formula_of known params t ∷ []
goals_in known params _ = []

-- the pattern of the specification
abbrev pub pattern_of : List Kind → ResolvedPattern → PatternData
pattern_of own p =
    record {
      params = p.params;
      domains = map domain_of own;
      first = flat_map (first_in (pattern_known p.params own) p.params) p.lines;
      step = flat_map (step_in (pattern_known p.params own) p.params) p.lines;
      goals = flat_map (goals_in (pattern_known p.params own) p.params) p.lines;
    }

-- ---- faults of the whole

-- it is too wide, or else its lines leave open which values its own variables have
abbrev pub table_fault : PatternData → Option ℕ
table_fault p = if is_wide p then Some (number_of PatternWide) else (if is_determined p then None else Some (number_of PatternOpen))

abbrev pub table_faults : Spot → PatternData → List Finding
table_faults at p = option_to_list (option_map (λ number. fault number at) (table_fault p))

abbrev pub is_empty : List Finding → Bool
is_empty [] = true
is_empty (f ∷ fs) = false

-- The faults of its lines. One that has none, and whose names and types have none, is looked at as a whole.
abbrev pub pattern_faults : (sound : Bool) → List Kind → ResolvedPattern → List Finding
pattern_faults sound own p =
    lines_faults own p ++ (if sound && is_empty (lines_faults own p) then table_faults p.name.at (pattern_of own p) else [])

abbrev pub meant : (sound : Bool) → List Kind → ResolvedPattern → Option PatternData
meant sound own p = if sound && is_empty (pattern_faults sound own p) then Some (pattern_of own p) else None
