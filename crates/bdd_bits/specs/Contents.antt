-- What diagrams over bits hold: the store, the lists of levels that answers are about, and the order of the bits.
use Rattle.std.specs.Prelude.{ℕ, List}
use Rattle.spec_model.specs.Diagrams.{Diagram, Function, value, shifted}
use Rattle.bdd_store.specs.State.{State, diagram_of}
use Rattle.bdd_ops.specs.Contents.{Contents as Levels}
use Rattle.bdd_bits.specs.Orders.{BitOrder, IsDeclared as IsDeclaredOrder}

pub record Contents : Type 0 where
  pub state : State
  pub lists : List (List ℕ)
  pub order : BitOrder

-- the same diagrams, over levels
abbrev pub over_levels : Contents → Levels
over_levels c = record { state = c.state; lists = c.lists }

-- the function of a diagram: it reads at each level the bit that stands there
abbrev pub function_of : Contents → Diagram → Function
function_of c d = shifted c.order.names (value d)

-- the function of a node
abbrev pub function_at : Contents → ℕ → Function
function_at c n = function_of c (diagram_of c.state n)

-- each bit stands at the level of its number
abbrev pub IsDeclared : Contents → Type 0
IsDeclared c = IsDeclaredOrder c.order
