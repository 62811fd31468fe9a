use Rattle.std.proofs.Common.{◌≡◌, ◌+◌, ℕ}
use Rattle.bdd_store.specs.State.{roots_at}
use Rattle.bdd_reorder.specs.Copying.{copies_at}
use Rattle.bdd_reorder.proofs.memo.Memo.clear.Given as goal

-- what is kept besides what is left was kept at first but for what was remembered
abbrev pub invariant-loop-copied : goal.invariant-loop-copied
invariant-loop-copied l =
    record {
      left : (n : ℕ) → roots_at l.to.state n + copies_at n l.fn.self.copies.items ≡ roots_at l.fn.to.state n + copies_at n l.self.copies.items;
      table : l.to.state.table ≡ l.fn.to.state.table;
    }

abbrev pub decreases-loop-copied : goal.decreases-loop-copied
decreases-loop-copied l = goal.left-loop-copied l
