-- The lines of a game: when each is judged, and which functions of bits tell whether it holds.
use Rattle.std.specs.Prelude.{ℕ, Bool, true, false, not, if◌then◌else◌, List, [], ◌∷◌, ◌++◌}
use Rattle.std.specs.List.{flat_map}
use Rattle.spec_model.specs.Syntax.{Formula}
use Rattle.spec_model.specs.Moves.{has_next}
use Rattle.spec_model.specs.Games.{GameData}
use Rattle.spec_model.specs.Steps.{waits_for_output}
use Rattle.spec_model.specs.Diagrams.{Function, shifted}
use Rattle.regions.specs.declared.types.When.{When}
use Rattle.regions.specs.declared.types.When.TheVariants.{First, Later}
use Rattle.bit_compile.specs.Domains.{state_domains}
use Rattle.bit_compile.specs.Compiled.{compiled, proper}
use Rattle.game_values.specs.declared.seen.At.TheVariants.{Next}
use Rattle.bdd_sets.specs.declared.lines.Side.{Side}
use Rattle.bdd_sets.specs.declared.lines.Side.TheVariants.{Assumptions, Guarantees}

-- ---- lines

abbrev pub first_lines : GameData → Side → List (ℕ × Formula)
first_lines g Assumptions = g.initial_asm
first_lines g Guarantees = g.initial_gar

abbrev pub safety_lines : GameData → Side → List (ℕ × Formula)
safety_lines g Assumptions = g.safe_asm
safety_lines g Guarantees = g.safe_gar

-- whether a line is judged one move later
abbrev pub is_late : GameData → Side → Formula → Bool
is_late g Assumptions e = waits_for_output g e
is_late g Guarantees e = has_next e

-- a late line is not judged at the first move
abbrev pub is_judged_at : When → (late : Bool) → Bool
is_judged_at First late = not late
is_judged_at Later late = true

-- ---- their functions

-- that of a late line reads the state before and the next one, and that of any other the next one alone
abbrev pub line_function : GameData → (to : List ℕ) → (late : Bool) → Formula → Function
line_function g to true e = compiled g e
line_function g to false e = shifted to (compiled g e)

-- the function of a line, if it is judged at these moves
abbrev pub line_functions : GameData → (to : List ℕ) → When → (late : Bool) → Formula → List Function
line_functions g to when late e = if is_judged_at when late then line_function g to late e ∷ [] else []

-- those of several lines
abbrev pub functions_of : GameData → (to : List ℕ) → When → (late : Formula → Bool) → List (ℕ × Formula) → List Function
functions_of g to when late lines = flat_map (λ l. line_functions g to when (late l.1) l.1) lines

-- those of a side's lines that are judged at the first move alone
abbrev pub first_functions : GameData → (to : List ℕ) → Side → When → List Function
first_functions g to side First = functions_of g to First (is_late g side) (first_lines g side)
first_functions g to side Later = []

-- those of all its lines that are judged at the first move, or at a later one
abbrev pub functions_judged : GameData → (to : List ℕ) → Side → When → List Function
functions_judged g to side when = first_functions g to side when ++ functions_of g to when (is_late g side) (safety_lines g side)

-- ---- the members of moves

-- the functions of a side's lines, and that of the next states
abbrev pub side_functions : GameData → (to : List ℕ) → Side → When → List Function
side_functions g to side when = functions_judged g to side when ++ proper (state_domains g) Next ∷ []
