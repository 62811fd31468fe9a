-- Operators in a row: which of them have a quantifier, and what they are written out.
use Rattle.std.specs.Prelude.{ℤ, Bool, false, ◌||◌, List, [], ◌∷◌, Option, map}
use Rattle.spectra_resolved.specs.Chained.{LinkData}
use Rattle.spectra_copies.specs.Ranges.{Bound}
use Rattle.spectra_copies.specs.Copies.{has_quantifier, written}

-- whether one stands in the second operands of operators
abbrev pub links_quantified : List LinkData → Bool
links_quantified [] = false
links_quantified (l ∷ ls) = has_quantifier l.second || links_quantified ls

-- an operator whose second operand is written out
abbrev pub link_out : (c : List (Option ℤ)) → (q : List Bound) → LinkData → LinkData
link_out c q l = record l { second = written c q l.second }

abbrev pub links_out : (c : List (Option ℤ)) → (q : List Bound) → List LinkData → List LinkData
links_out c q ls = map (link_out c q) ls
