use Rattle.std.proofs.Common.{◌≡◌, ◌+◌, ◌≤◌, ℕ, [], map, take, length, vec_len, vec_capacity}
use Rattle.spec_model.specs.Diagrams.{Diagram, value, shifted}
use Rattle.bdd_store.specs.State.{roots_at, SameRoots}
use Rattle.bdd_ops.specs.Calls.{KeepsRoots}
use Rattle.bdd_reorder.specs.Keeping.{times_in}
use Rattle.bdd_reorder.specs.Making.{functions_at, diagrams_at}
use Rattle.bdd_reorder.proofs.copying.each.Given as goal

-- the first diagrams are copied
abbrev pub invariant-loop-root : goal.invariant-loop-root
invariant-loop-root l =
    record {
      meaning : functions_at l.to l.copies.items ≡ map (λ (d : Diagram). shifted l.levels (value d)) (diagrams_at l.fn.from (take l.root-index l.roots));
      added : (n : ℕ) → roots_at l.to.state n ≡ roots_at l.fn.to.state n + times_in n l.copies.items;
      keeps : KeepsRoots l.fn.to l.to;
      table : l.from.state.table ≡ l.fn.from.state.table;
      roots : SameRoots l.fn.from.state l.from.state;
      empty : l.memo.copies.items ≡ [];
      idle : l.frames.items ≡ [];
      counted : vec_len l.copies ≡ l.root-index;
      room : length l.roots ≤ vec_capacity l.copies;
    }
