-- The places of operators in a row, and those that are left in a loop.
use Rattle.std.proofs.Common.{◌≡◌, Bool, true, false, ◌&&◌, List, [], ◌∷◌, refl, ◌∙◌}
use Rattle.std.specs.List.{list_all}
use Rattle.spectra_resolved.specs.declared.spot.Spot.{Spot}
use Rattle.spectra_resolved.specs.Resolved.{ResolvedTree}
use Rattle.spectra_resolved.specs.Chained.{LinkData, joined, chained}
use Rattle.spectra_bodies.specs.Places.{all_places, link_places}

with_none : (b : Bool) → b ≡ (b && true)
with_none true = refl
with_none false = refl

moved : (own first second rest : Bool) → ((own && (first && second)) && rest) ≡ (first && ((own && second) && rest))
moved true true second rest = refl
moved true false second rest = refl
moved false true second rest = refl
moved false false second rest = refl

-- those of the first operand, and of each operator behind it
pub chained_places : (good : Spot → Bool) (t : ResolvedTree) (ls : List LinkData) → all_places good (chained t ls) ≡ (all_places good t && list_all (link_places good) ls)
chained_places good t [] = with_none (all_places good t)
chained_places good t (l ∷ ls) =
    chained_places good (joined t l) ls ∙ moved (good l.first && good l.at.spot) (all_places good t) (all_places good l.second) (list_all (link_places good) ls)
