-- When copying diagrams under other orders fills a budget.
use Rattle.std.specs.Prelude.{ℕ, List}
use Rattle.spec_model.specs.Diagrams.{Diagram, Function}
use Rattle.node_table.specs.Table.{Table}
use Rattle.bdd_store.specs.State.{State}
use Rattle.bdd_reorder.specs.Crowding.{IsCrowdedByCopy}
use Rattle.variable_order.specs.Levels.{levels_under}
use Rattle.variable_order.specs.Climbing.{moved, IsMove, Reaches}

-- copying under the order after some move fills the budget
pub record IsCrowdedByMove (old : State) (t : Table) (fixed : ℕ) (widths : List ℕ) (ds : List Diagram) (order : List ℕ) : Type 0 where
  pub i : ℕ
  pub j : ℕ
  pub move : IsMove fixed order i j
  pub crowded : IsCrowdedByCopy old t (levels_under widths (moved order i j)) ds

-- copying under an order that a climb considers fills the budget
pub record IsCrowdedByClimb (old : State) (t : Table) (fixed : ℕ) (widths : List ℕ) (fs : List Function) (ds : List Diagram) (start : List ℕ) (n : ℕ) : Type 0 where
  pub order : List ℕ
  pub k : ℕ
  pub reached : Reaches fixed widths fs start n order k
  pub crowded : IsCrowdedByMove old t fixed widths ds order
