use Rattle.std.proofs.Common.{◌≡◌, ◌+◌, ℕ, List}
use Rattle.spec_model.specs.Diagrams.{Diagram}
use Rattle.bdd_store.specs.State.{roots_at}
use Rattle.bdd_reorder.specs.Keeping.{times_in}
use Rattle.bdd_reorder.specs.Searching.{IsSearched, turns_over}
use Rattle.bdd_reorder.proofs.counting.look_on.Given as goal

-- whatever was searched at first is searched still, and what waits is kept
abbrev pub invariant-loop-root : goal.invariant-loop-root
invariant-loop-root l =
    record {
      searched : (ds : List Diagram) → IsSearched l.fn.from.state.table ds l.fn.found l.fn.waiting.items → IsSearched l.fn.from.state.table ds l.found l.waiting.items;
      table : l.from.state.table ≡ l.fn.from.state.table;
      left : (n : ℕ) → roots_at l.from.state n + times_in n l.fn.waiting.items ≡ roots_at l.fn.from.state n + times_in n l.waiting.items;
    }

abbrev pub decreases-loop-root : goal.decreases-loop-root
decreases-loop-root l = turns_over l.fn.from.state.table l.waiting.items
