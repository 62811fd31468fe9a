use Rattle.std.proofs.Common.{◌≡◌, ◌+◌, ℕ, take}
use Rattle.bdd_store.specs.State.{roots_at}
use Rattle.bdd_reorder.specs.Keeping.{times_in}
use Rattle.bdd_reorder.specs.Making.{diagrams_at}
use Rattle.bdd_reorder.specs.Searching.{IsSearched}
use Rattle.bdd_reorder.proofs.counting.look_at.Given as goal

-- the first diagrams are looked at, and what waits is kept
abbrev pub invariant-loop-root : goal.invariant-loop-root
invariant-loop-root l =
    record {
      searched : IsSearched l.fn.from.state.table (diagrams_at l.fn.from (take l.root-index l.roots)) l.found l.waiting.items;
      table : l.from.state.table ≡ l.fn.from.state.table;
      kept : (n : ℕ) → roots_at l.from.state n ≡ roots_at l.fn.from.state n + times_in n l.waiting.items;
    }
