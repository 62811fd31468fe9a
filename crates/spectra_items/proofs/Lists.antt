-- Several trees as a list.
use Rattle.std.proofs.Common.{◌≡◌, ℕ, List, [], ◌∷◌, ◌++◌, map, flat_map, refl, ap}
use Rattle.spectra_trees.specs.Data.{Expression, expressions}
use Rattle.spectra_resolved.specs.Looks.{Looking}
use Rattle.spectra_resolved.specs.Resolved.{ResolvedTree, listed}
use Rattle.spectra_resolved.specs.Chained.{trees}
use Rattle.spectra_resolved.specs.Resolving.{resolved, resolved_each, misuses, misuses_of_each}

pub listed-trees : (ts : List ResolvedTree) → listed (trees ts) ≡ ts
listed-trees [] = refl
listed-trees (t ∷ ts) = ap (λ us. t ∷ us) (listed-trees ts)

pub each-listed : (look : Looking) (file : ℕ) (es : List Expression) → listed (resolved_each look file (expressions es)) ≡ map (resolved look file) es
each-listed look file [] = refl
each-listed look file (e ∷ es) = ap (λ us. resolved look file e ∷ us) (each-listed look file es)

pub each-misused : (look : Looking) (file : ℕ) (es : List Expression) → misuses_of_each (resolved_each look file (expressions es)) ≡ flat_map misuses (map (resolved look file) es)
each-misused look file [] = refl
each-misused look file (e ∷ es) = ap (λ fs. misuses (resolved look file e) ++ fs) (each-misused look file es)
