use Rattle.std.proofs.Common.{◌≡◌, ◌<◌, take}
use Rattle.std.specs.List.{All}
use Rattle.bdd_products.specs.Products.{members_in}
use Rattle.bdd_products.proofs.sorting.places_of.Given as goal

-- a place for each member so far
abbrev pub invariant-loop-place : goal.invariant-loop-place
invariant-loop-place l =
    record {
      places : members_in l.members l.places.items ≡ take l.place l.members;
      below : All (λ p. p.1 < l.place) l.places.items;
    }
