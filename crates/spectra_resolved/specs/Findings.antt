-- Faults with their places, and the one that comes first.
use Rattle.std.specs.Prelude.{ℕ, Bool, ◌==◌, nat_lt, List, [], ◌∷◌, Option, Some, None, if◌then◌else◌}
use Rattle.spectra_resolved.specs.declared.spot.Spot.{Spot}
use Rattle.spectra_resolved.specs.declared.findings.Finding.{Finding}

abbrev pub fault : ℕ → Spot → Finding
fault number at = record { number = number; at = at }

-- whether a fault comes before another: in an earlier file, at a lesser place in it, or with a smaller number at the same place
abbrev pub precedes : Finding → Finding → Bool
precedes a b =
    if a.at.file == b.at.file then
    (if a.at.line == b.at.line then (if a.at.column == b.at.column then nat_lt a.number b.number else nat_lt a.at.column b.at.column)
    else nat_lt a.at.line b.at.line)
    else nat_lt a.at.file b.at.file

-- the first of those so far and one more
abbrev pub with_fault : Option Finding → Finding → Option Finding
with_fault None f = Some f
with_fault (Some g) f = Some (if precedes f g then f else g)

-- the first of those so far and several more
abbrev pub with_faults : Option Finding → List Finding → Option Finding
with_faults found [] = found
with_faults found (f ∷ fs) = with_faults (with_fault found f) fs

-- the fault that comes first
abbrev pub first_of_faults : List Finding → Option Finding
first_of_faults fs = with_faults None fs
