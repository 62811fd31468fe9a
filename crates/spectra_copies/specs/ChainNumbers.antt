-- The number of operators in a row.
use Rattle.std.specs.Prelude.{ℤ, List, [], ◌∷◌, Option}
use Rattle.spectra_resolved.specs.Chained.{LinkData}
use Rattle.spectra_copies.specs.Numbers.{joined_number, number_in}

-- what operators in text order make behind a first operand with this number
abbrev pub chain_number : (numbers : List (Option ℤ)) → (first : Option ℤ) → List LinkData → Option ℤ
chain_number numbers first [] = first
chain_number numbers first (l ∷ ls) = chain_number numbers (joined_number l.word first (number_in numbers l.second)) ls
