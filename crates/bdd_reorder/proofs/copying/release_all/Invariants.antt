use Rattle.std.proofs.Common.{◌≡◌, ◌+◌, ℕ}
use Rattle.bdd_store.specs.State.{roots_at}
use Rattle.bdd_reorder.specs.Keeping.{times_in}
use Rattle.bdd_reorder.proofs.copying.release_all.Given as goal

-- what is kept besides what is left was kept at first but for what was given
abbrev pub invariant-loop-root : goal.invariant-loop-root
invariant-loop-root l =
    record {
      left : (n : ℕ) → roots_at l.diagrams.state n + times_in n l.fn.roots.items ≡ roots_at l.fn.diagrams.state n + times_in n l.roots.items;
      table : l.diagrams.state.table ≡ l.fn.diagrams.state.table;
    }

abbrev pub decreases-loop-root : goal.decreases-loop-root
decreases-loop-root l = goal.left-loop-root l
