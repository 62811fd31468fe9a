-- Two stores, of which one has diagrams in the order of the slots, and the other copies of them under other orders.
use Rattle.std.specs.Prelude.{◌≡◌, ◌<◌, ◌^◌, ℕ, List}
use Rattle.bdd_store.specs.State.{SameRoots}
use Rattle.bdd_ops.specs.Contents.{Contents}
use Rattle.bdd_ops.specs.Calls.{KeepsRoots}
use Rattle.variable_order.specs.Levels.{total, slots_of}

-- both stores have the levels of the slots, fewer than 2^32
pub record FitsSlots (from to : Contents) (widths : List ℕ) : Type 0 where
  pub from_levels : from.state.table.levels ≡ total widths (slots_of widths)
  pub to_levels : to.state.table.levels ≡ total widths (slots_of widths)
  pub few : total widths (slots_of widths) < 2 ^ 32

-- kept roots are the diagrams that they were, and no other is kept
pub record Stays (old new : Contents) : Type 0 where
  pub keeps : KeepsRoots old new
  pub roots : SameRoots old.state new.state
