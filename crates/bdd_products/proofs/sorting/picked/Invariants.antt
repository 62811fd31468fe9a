use Rattle.std.proofs.Common.{Ok, take}
use Rattle.bdd_sets.specs.Members.{functions_at}
use Rattle.bdd_sets.specs.Lists.{MakesList}
use Rattle.bdd_products.specs.Products.{members_in}
use Rattle.bdd_products.proofs.sorting.picked.Given as goal

-- a root for each place so far
abbrev pub invariant-loop-place : goal.invariant-loop-place
invariant-loop-place l = MakesList l.fn.diagrams l.diagrams (Ok l.list) (functions_at l.fn.diagrams (members_in l.members (take l.place-index l.places)))
