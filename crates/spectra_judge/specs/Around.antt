-- What is open around a part of an expression, and the faults of what stands where it may not.
use Rattle.spectra_trees.specs.Faults.{NextHere, NextNested, NextOfSystem, SystemInInitial, WrongType, number_of}
use Rattle.std.specs.Prelude.{ℕ, Bool, true, false, ◌==◌, nat_lt, ◌&&◌, ◌||◌, if◌then◌else◌, List, [], ◌∷◌, ◌++◌, Option, Some, None, unwrap_or}
use Rattle.spectra_resolved.specs.declared.spot.Spot.{Spot}
use Rattle.spectra_resolved.specs.declared.spot.Mark.{Mark}
use Rattle.spectra_resolved.specs.declared.findings.Finding.{Finding}
use Rattle.spectra_resolved.specs.Findings.{fault}
use Rattle.spectra_judge.specs.Findings.{fault_if}
use Rattle.spectra_judge.specs.Standings.{Bans}
pub use Rattle.spectra_judge.specs.declared.around.Around.{Around}

-- ---- places

abbrev pub comes_before : Spot → Spot → Bool
comes_before a b =
    if a.file == b.file then (if a.line == b.line then nat_lt a.column b.column else nat_lt a.line b.line) else nat_lt a.file b.file

-- Where a fault of two parts stands: at the outer one where a body brings it, or else at the inner one where one does, and
-- where none does, at the one that is said.
abbrev pub meeting : (outer inner said : Mark) → Spot
meeting outer inner said = if outer.brought then outer.spot else (if inner.brought then inner.spot else said.spot)

-- ---- what is open

abbrev pub nothing_open : Around
nothing_open = record { next = None; past = false; brought = None; bound = None }

-- the outer one of two that are open
abbrev pub outer_of : Option Mark → Mark → Mark
outer_of (Some outer) at = outer
outer_of None at = at

-- what is open in the operand of a `next`
abbrev pub under_next : Mark → Around → Around
under_next at o = record o { next = Some (outer_of o.next at) }

-- what is open in the bounds of a quantifier
abbrev pub in_bound : Mark → Around → Around
in_bound at o = record o { bound = Some (outer_of o.bound at) }

-- the outermost of the past operators that bodies bring, with one more inside that one brings or doesn't
abbrev pub first_brought : Option Spot → (here : Bool) → Spot → Option Spot
first_brought (Some outer) here at = Some outer
first_brought None true at = Some at
first_brought None false at = None

-- what is open in the operands of an operator, which speaks of the past or not
abbrev pub within : (past : Bool) → Mark → Around → Around
within true at o = record o { past = true; brought = first_brought o.brought at.brought at.spot }
within false at o = o

-- ---- faults

-- a part in a `next`, where it may not be
abbrev pub in_next : Option Mark → Mark → List Finding
in_next (Some outer) at = fault (number_of NextNested) (meeting outer at at) ∷ []
in_next None at = []

-- a `next` in past operators: at the first of them that a body brings, or else at itself
abbrev pub in_past : Around → Spot → List Finding
in_past o at = fault_if o.past (number_of NextNested) (unwrap_or o.brought at)

-- a part in the bounds of a quantifier, where it may not be
abbrev pub in_bounds : (banned : Bool) → ℕ → Around → Mark → List Finding
in_bounds banned number o at = bounded o.bound
  where
    bounded : Option Mark → List Finding
    bounded (Some outer) = fault_if banned number (meeting outer at at)
    bounded None = []

-- a `next`, and a past operator
abbrev pub next_faults : Bans → Around → Mark → List Finding
next_faults bans o at = fault_if bans.next (number_of NextHere) at.spot ++ (in_next o.next at ++ (in_past o at.spot ++ in_bounds true (number_of NextHere) o at))

abbrev pub past_faults : Bans → (next : Option Mark) → Mark → List Finding
past_faults bans next at = fault_if bans.past (number_of WrongType) at.spot ++ in_next next at

-- what is read under a `next`, where it may not be
abbrev pub shifted : (banned : Bool) → ℕ → (next : Option Mark) → Mark → List Finding
shifted banned number (Some next) at = fault_if banned number (meeting next at next)
shifted banned number None at = []

-- a variable, of the system or not
abbrev pub variable_faults : Bans → Around → Mark → (system : Bool) → List Finding
variable_faults bans o at system =
    fault_if bans.variable (number_of WrongType) at.spot
    ++ (fault_if (bans.system && system) (number_of SystemInInitial) at.spot
    ++ (shifted (bans.shifted_system && system) (number_of NextOfSystem) o.next at ++ in_bounds true (number_of WrongType) o at))

-- a parameter of a pattern, and one of its own variables
abbrev pub parameter_faults : Bans → Around → Mark → List Finding
parameter_faults bans o at =
    fault_if (bans.variable || bans.parameter) (number_of WrongType) at.spot
    ++ (shifted bans.shifted_parameter (number_of NextHere) o.next at ++ in_bounds bans.bound_parameter (number_of WrongType) o at)

abbrev pub own_faults : Bans → Around → Mark → List Finding
own_faults bans o at = fault_if bans.variable (number_of WrongType) at.spot ++ in_bounds true (number_of WrongType) o at
