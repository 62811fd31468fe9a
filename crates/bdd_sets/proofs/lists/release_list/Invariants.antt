use Rattle.std.proofs.Common.{◌≡◌, ◌+◌, ℕ}
use Rattle.bdd_store.specs.State.{roots_at}
use Rattle.bdd_bits.specs.Calls.{SameNodes}
use Rattle.bdd_sets.specs.Lists.{times_in}
use Rattle.bdd_sets.proofs.lists.release_list.Given as goal

-- what is kept besides what is left was kept at first but for what was given
abbrev pub invariant-loop-root : goal.invariant-loop-root
invariant-loop-root l =
    record {
      left : (n : ℕ) → roots_at l.diagrams.state n + times_in n l.fn.roots.items ≡ roots_at l.fn.diagrams.state n + times_in n l.roots.items;
      nodes : SameNodes l.fn.diagrams l.diagrams;
    }

abbrev pub decreases-loop-root : goal.decreases-loop-root
decreases-loop-root l = goal.left-loop-root l
