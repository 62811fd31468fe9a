-- How many elements arrays have.
use Rattle.spectra_trees.specs.Faults.{WideArray, number_of}
use Rattle.std.specs.Prelude.{ℕ, ◌==◌, max, nat_le, if◌then◌else◌, List, [], ◌∷◌, Option, Some, None}
use Rattle.spectra_trees.specs.Data.{LengthData}
use Rattle.spectra_resolved.specs.declared.findings.Finding.{Finding}
use Rattle.spectra_resolved.specs.Findings.{fault}
use Rattle.spectra_resolved.specs.Numbers.{written_after}
use Rattle.spectra_resolved.specs.Spots.{spot_at}

-- the number of an array's elements, from 1 to 256; a faulty length makes none
abbrev pub elements_of : LengthData → ℕ
elements_of l = if nat_le (written_after 0 l.digits) 256 then written_after 0 l.digits else 0

-- what is no array is one variable, and so is an array of a faulty length
abbrev pub count_of : Option LengthData → ℕ
count_of (Some l) = max (elements_of l) 1
count_of None = 1

abbrev pub length_faults : (file : ℕ) → Option LengthData → List Finding
length_faults file (Some l) = if elements_of l == 0 then fault (number_of WideArray) (spot_at file l.bracket) ∷ [] else []
length_faults file None = []
