use Rattle.std.proofs.Common.{◌<◌, ◌≤◌, ◌-◌, Ok, length, take}
use Rattle.bdd_sets.specs.Members.{all_true, functions_at}
use Rattle.bdd_products.specs.Products.{MakesLines}
use Rattle.bdd_products.proofs.grouping.groups_of.Given as goal

-- groups of the members so far
abbrev pub invariant-loop-from : goal.invariant-loop-from
invariant-loop-from l =
    record {
      lines : MakesLines l.fn.diagrams l.diagrams (Ok l.list) (all_true (functions_at l.fn.diagrams (take l.from l.members)));
      some : 0 < length l.list.items;
      within : l.from ≤ length l.members;
    }

abbrev pub decreases-loop-from : goal.decreases-loop-from
decreases-loop-from l = length l.members - l.from
