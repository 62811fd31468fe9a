-- How many different parts functions' reduced diagrams have under an order of the slots.
use Rattle.std.specs.Prelude.{◌≡◌, ℕ, List, map}
use Rattle.spec_model.specs.Diagrams.{Diagram, Function, value, shifted}
use Rattle.bdd_reorder.specs.Counting.{HaveParts}
use Rattle.variable_order.specs.Levels.{levels_under}

-- the functions with the slots in this order
abbrev pub under : List ℕ → List ℕ → List Function → List Function
under widths order fs = map (shifted (levels_under widths order)) fs

-- their reduced diagrams have together so many different parts, both constants always counted
pub record HasNodes (widths : List ℕ) (fs : List Function) (order : List ℕ) (n : ℕ) : Type 0 where
  pub ds : List Diagram
  pub are : map value ds ≡ under widths order fs
  pub have : HaveParts ds n
