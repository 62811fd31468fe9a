-- What chains stand for, and what is put in in them.
use Rattle.std.proofs.Common.{◌≡◌, List, [], ◌∷◌, ◌++◌, map, Option, refl, ap}
use Rattle.spectra_resolved.specs.declared.spot.Spot.{Spot}
use Rattle.spectra_resolved.specs.Resolved.{ResolvedTree}
use Rattle.spectra_resolved.specs.Chained.{LinkData, joined, chained}
use Rattle.spectra_copies.specs.Places.{placed, marked}
use Rattle.spectra_elaboration.specs.Putting.{Put, filled}

pub map_twice : {X Y Z : Type 0} (f : Y → Z) (g : X → Y) (xs : List X) → map f (map g xs) ≡ map (λ x. f (g x)) xs
map_twice f g [] = refl
map_twice f g (x ∷ xs) = ap (λ ys. f (g x) ∷ ys) (map_twice f g xs)

-- operators behind others
pub chained-append : (t : ResolvedTree) (ls ms : List LinkData) → chained t (ls ++ ms) ≡ chained (chained t ls) ms
chained-append t [] ms = refl
chained-append t (l ∷ ls) ms = chained-append (joined t l) ls ms

module _ (put : Put) (brought : Option Spot) (arguments : List ResolvedTree) where
  abbrev pub link_filled : LinkData → LinkData
  link_filled l = record { first = placed brought l.first; at = marked brought l.at; word = l.word; second = filled put brought arguments l.second }

  -- operators are filled in one by one
  pub chained_filled : (t : ResolvedTree) (ls : List LinkData) → filled put brought arguments (chained t ls) ≡ chained (filled put brought arguments t) (map link_filled ls)
  chained_filled t [] = refl
  chained_filled t (l ∷ ls) = chained_filled (joined t l) ls
