-- The faults of types and of definitions.
use Rattle.std.specs.Prelude.{List, [], ◌++◌, map, flat_map, if◌then◌else◌}
use Rattle.spectra_resolved.specs.declared.stand.Stand.TheVariants as stand
use Rattle.spectra_resolved.specs.declared.findings.Finding.{Finding}
use Rattle.spectra_resolved.specs.Resolved.{ResolvedTree}
use Rattle.spectra_resolved.specs.Texts.{ResolvedType, RangeOf, ResolvedVariable, ResolvedAlias, ResolvedDefinition, ResolvedPattern, ResolvedText}
use Rattle.spectra_judge.specs.Known.{Known}
use Rattle.spectra_judge.specs.Judged.{faults_of}
use Rattle.spectra_elaboration.specs.Putting.{Bodies}
use Rattle.spectra_uses.specs.Uses.{all_uses}
use Rattle.spectra_bounds.specs.Numbers.{Constants, constants, is_faulty}
use Rattle.spectra_bounds.specs.Types.{range_faults}
use Rattle.spectra_bounds.specs.Cycles.{on_cycles, cycle_faults, type_cycles}
use Rattle.spectra_notes.specs.Notes.{body_faults, known_inside, noted, known_in_line, known_in_pattern}
use Rattle.spectra_bodies.specs.PutIn.{bodies, put_in_faults}
use Rattle.spectra_bodies.specs.Unmeant.{all_unmeant}

-- by what bounds are judged: the numbers of defines, the bodies that are put in, and what is known of the names as they are
-- written
pub record Basis : Type 0 where
  pub constants : Constants
  pub bodies : Bodies
  pub known : Known

-- outside of patterns, and in a pattern, whose names are seen in the types of its own variables
abbrev pub basis_of : ResolvedText → Basis
basis_of text = record { constants = constants text.definitions; bodies = bodies text; known = known_in_line (noted text) }

abbrev pub basis_in : ResolvedText → ResolvedPattern → Basis
basis_in text p = record { constants = constants text.definitions; bodies = bodies text; known = known_in_pattern text p }

-- ---- types

-- the faults of a bound, as it is written and with everything put in
abbrev pub bound_faults : Basis → ResolvedTree → List Finding
bound_faults b t = faults_of b.known stand.Bound t ++ put_in_faults b.bodies b.known stand.Bound t

-- a range without numbers, and the faults of its bounds
abbrev pub type_faults : Basis → ResolvedType → List Finding
type_faults b (RangeOf at low high) = range_faults b.constants (RangeOf at low high) ++ (bound_faults b low ++ bound_faults b high)
type_faults b _ = []

abbrev pub each_type_faults : Basis → List ResolvedType → List Finding
each_type_faults b ts = flat_map (type_faults b) ts

-- the faults of variables' types, of declared types, and of parameters' types
abbrev pub typed_faults : Basis → ResolvedText → List Finding
typed_faults b text =
    flat_map (λ (v : ResolvedVariable). type_faults b v.domain) text.variables
    ++ (flat_map (λ (a : ResolvedAlias). type_faults b a.body) text.types ++ flat_map (λ (d : ResolvedDefinition). each_type_faults b d.params) text.definitions)

abbrev pub own_faults : ResolvedText → ResolvedPattern → List Finding
own_faults text p = each_type_faults (basis_in text p) p.own

-- those, the faults of own variables' types, and the types that go round
abbrev pub faults_of_types : ResolvedText → List Finding
faults_of_types text = typed_faults (basis_of text) text ++ (flat_map (own_faults text) text.patterns ++ type_cycles text.types)

-- ---- definitions

-- the definitions that are used in their own bodies, and the faults of all bodies as they are written
abbrev pub faults_of_definitions : ResolvedText → List Finding
faults_of_definitions text =
    cycle_faults (on_cycles (all_uses text.definitions)) (map (λ (d : ResolvedDefinition). d.name.at) text.definitions)
    ++ flat_map (λ (d : ResolvedDefinition). body_faults (known_inside text (noted text).defines d) d) text.definitions

-- ---- both

-- what is wrong with types and definitions
abbrev pub wrong_in : ResolvedText → List Finding
wrong_in text = faults_of_types text ++ faults_of_definitions text

-- All faults of types and of definitions. Where nothing is wrong, a range has no numbers only if its bounds are too large to be
-- judged with everything put in, which is a fault then.
abbrev pub declared_faults : ResolvedText → List Finding
declared_faults text = if is_faulty (wrong_in text) then wrong_in text else all_unmeant (constants text.definitions) text
