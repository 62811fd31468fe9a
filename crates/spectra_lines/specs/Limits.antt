-- How large lines may be: what is put in has at most 2,000,000 nodes and 512 levels, and the formulas of all lines have 1,000,000
-- nodes, and each of them 512 levels.
use Rattle.std.specs.Prelude.{ℕ, ◌+◌, ◌-◌, nat_le, Bool, not, ◌&&◌, if◌then◌else◌, List, [], ◌∷◌, Option, Some, None, is_some}
use Rattle.std.specs.List.{list_all}
use Rattle.spec_model.specs.FormulaSizes.{nodes_in, levels_in}
use Rattle.spectra_resolved.specs.Resolved.{ResolvedTree}
use Rattle.spectra_copies.specs.Nodes.{tree_nodes}
use Rattle.spectra_copies.specs.Levels.{tree_levels}
use Rattle.spectra_judge.specs.Known.{Known}
use Rattle.spectra_cases.specs.Formulas.{formula_of}

abbrev pub most_nodes : ℕ
most_nodes = 1_000_000

abbrev pub most_levels : ℕ
most_levels = 512

abbrev pub most_put : ℕ
most_put = 2_000_000

-- what is put in isn't too large
abbrev pub fits : ResolvedTree → Bool
fits t = nat_le (tree_nodes t) most_put && nat_le (tree_levels t) most_levels

abbrev pub all_fit : List ResolvedTree → Bool
all_fit ts = list_all fits ts

-- nor has its formula a level too many
abbrev pub is_flat : Known → (params : ℕ) → ResolvedTree → Bool
is_flat known params t = fits t && nat_le (levels_in (formula_of known params t)) most_levels

abbrev pub are_flat : Known → (params : ℕ) → List ResolvedTree → Bool
are_flat known params ts = list_all (is_flat known params) ts

-- the nodes of the formulas
abbrev pub nodes_of : Known → (params : ℕ) → List ResolvedTree → ℕ
nodes_of known params [] = 0
nodes_of known params (t ∷ ts) = nodes_in (formula_of known params t) + nodes_of known params ts

-- Room for nodes is what is left of the most; there is none from the first expression on that is too large.
abbrev pub behind : Known → (params : ℕ) → Option ℕ → ResolvedTree → Option ℕ
behind known params None t = None
behind known params (Some room) t =
    if is_flat known params t && nat_le (nodes_in (formula_of known params t)) room then Some (room - nodes_in (formula_of known params t)) else None

abbrev pub room_behind : Known → (params : ℕ) → Option ℕ → List ResolvedTree → Option ℕ
room_behind known params room [] = room
room_behind known params room (t ∷ ts) = room_behind known params (behind known params room t) ts

-- there is room for the expressions of a line
abbrev pub is_small : Known → (params : ℕ) → Option ℕ → List ResolvedTree → Bool
is_small known params room ts = is_some (room_behind known params room ts)

-- This line passes a limit. Behind it nothing is looked at any more.
abbrev pub is_too_large : Known → (params : ℕ) → Option ℕ → List ResolvedTree → Bool
is_too_large known params room ts = is_some room && not (is_small known params room ts)
