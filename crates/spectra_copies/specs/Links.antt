-- Operators in a row: their nodes, their levels, and their places where they are put in.
use Rattle.std.specs.Prelude.{ℕ, ◌+◌, List, [], ◌∷◌, nat_le, Bool, true, false, not, ◌&&◌, if◌then◌else◌, Option}
use Rattle.spectra_resolved.specs.Chained.{LinkData}
use Rattle.spectra_copies.specs.Nodes.{tree_nodes}
use Rattle.spectra_copies.specs.Levels.{is_row_word, tree_levels}
use Rattle.spectra_resolved.specs.declared.spot.Spot.{Spot}
use Rattle.spectra_resolved.specs.Resolved.{ResolvedTree}
use Rattle.spectra_copies.specs.Places.{placed, marked}

-- those of operators with their second operands
abbrev pub link_nodes : List LinkData → ℕ
link_nodes [] = 0
link_nodes (l ∷ ls) = (1 + tree_nodes l.second) + link_nodes ls

-- whether an operator is the last one of its row, where it is of one
abbrev pub ends_row : LinkData → List LinkData → Bool
ends_row l [] = true
ends_row l (m ∷ ls) = not (is_row_word l.word && is_row_word m.word)

-- whether the first of several is so
abbrev pub ends_at : List LinkData → Bool
ends_at [] = false
ends_at (l ∷ ls) = ends_row l ls

-- how many levels operators are: each that ends its row
abbrev pub link_levels : List LinkData → ℕ
link_levels [] = 0
link_levels (l ∷ ls) = (if ends_row l ls then 1 else 0) + link_levels ls

-- The second operands of operators, of which the first may have so many levels, and each behind the end of a row one more.
abbrev pub are_flat_above : ℕ → List LinkData → Bool
are_flat_above limit [] = true
are_flat_above limit (l ∷ ls) = nat_le (tree_levels l.second) limit && are_flat_above (limit + (if ends_row l ls then 1 else 0)) ls

-- an operator with another second operand
abbrev pub placed_link : (brought : Option Spot) → LinkData → ResolvedTree → LinkData
placed_link brought l second = record { first = placed brought l.first; at = marked brought l.at; word = l.word; second = second }
