-- Which lines hold at the move to a numbered state.
use Rattle.std.specs.Prelude.{ℕ, ◌<◌, Bool, true, false, ◌&&◌, List, [], ◌∷◌, Option, Some, None, get_or}
use Rattle.std.specs.List.{AllByRecursion}
use Rattle.spec_model.specs.Syntax.{Formula}
use Rattle.spec_model.specs.Meaning.{holds_at}
use Rattle.game_values.specs.Safety.{IsSafe}
use Rattle.game_values.specs.Moments.{MomentData, reading_of}

-- the moment of a number
abbrev pub moment_in : List MomentData → ℕ → MomentData
moment_in ms k = get_or ms k (record { values = []; entries = [] })

abbrev pub IsThere : ℕ → Option ℕ → ℕ → Type 0
IsThere n None at = at < n
IsThere n (Some from) at = (from < n) × (at < n)

abbrev pub IsBefore : ℕ → Option ℕ → Type 0
IsBefore n None = Unit {0}
IsBefore n (Some from) = from < n

-- the formula may be asked for at a state, and at the one before it and it
abbrev pub IsLineSafe : List MomentData → Option ℕ → ℕ → Formula → Type 0
IsLineSafe ms None at e = IsSafe (reading_of (moment_in ms at) (moment_in ms at)) e 0
IsLineSafe ms (Some from) at e = IsSafe (reading_of (moment_in ms from) (moment_in ms at)) e 0 × IsSafe (reading_of (moment_in ms at) (moment_in ms at)) e 0

abbrev pub AreLinesSafe : List MomentData → Option ℕ → ℕ → List Formula → Type 0
AreLinesSafe ms before at es = AllByRecursion (IsLineSafe ms before at) es

-- a late line is judged at the state before, and at the first move not at all
abbrev pub line_at : List MomentData → Option ℕ → ℕ → (late : Bool) → Formula → Bool
line_at ms None at true e = true
line_at ms (Some from) at true e = holds_at (reading_of (moment_in ms from) (moment_in ms at)) e 0
line_at ms before at false e = holds_at (reading_of (moment_in ms at) (moment_in ms at)) e 0

abbrev pub lines_at : List MomentData → Option ℕ → ℕ → List Bool → List Formula → Bool
lines_at ms before at (late ∷ flags) (e ∷ es) = line_at ms before at late e && lines_at ms before at flags es
lines_at ms before at _ _ = true
