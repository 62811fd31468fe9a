-- When what an order is sought with fills a budget.
use Rattle.std.specs.Prelude.{◌⊎◌, ℕ, List, length}
use Rattle.std.specs.List.{Contains}
use Rattle.spec_model.specs.Diagrams.{Diagram, Function, value, IsReduced}
use Rattle.spec_model.specs.Games.{GameData}
use Rattle.spec_model.specs.Syntax.{Specification}
use Rattle.hidden_game.specs.GameOf.{game_of}
use Rattle.bit_compile.specs.Domains.{state_domains, level_count}
use Rattle.bit_compile.specs.Filling.{IsFilledBy}
use Rattle.bdd_reorder.specs.Rearranged.{IsOfPart}
use Rattle.variable_order.specs.Levels.{levels_under}
use Rattle.variable_order.specs.Sizes.{under}
use Rattle.variable_order.specs.Climbing.{moved, IsMove}
use Rattle.line_functions.specs.Functions.{functions_of, IsOfLines}
use Rattle.spec_order.specs.Orders.{widths_of, declared, slots_for, HasNodesUnder, LeadsTo}

-- The nodes under these slots are counted: they are those of the declared order, or a move makes them of those that a climb from
-- there reaches.
pub data IsTried (g : GameData) : List ℕ → Type 0 where
  first : IsTried g (slots_for g (declared g))
  next : {slots : List ℕ} (n k i j : ℕ) → HasNodesUnder g (declared g) n → LeadsTo g n slots k → IsMove (length g.hidden) slots i j → IsTried g (moved slots i j)

-- What is held while a line's diagram is copied to where the slots stand so: lines' functions and those of its parts, with their
-- levels so rearranged, and one level's bit.
abbrev pub IsOfCopied : GameData → List ℕ → Diagram → ℕ → Function → Type 0
IsOfCopied g slots line level f = Contains (under (widths_of g) slots (functions_of g)) f ⊎ IsOfPart (levels_under (widths_of g) slots) line level f

-- Some of that and one operation on it, while the reduced diagram of one line is copied, fill the budget.
pub record IsFullByCopying (g : GameData) (budget : ℕ) : Type 0 where
  pub slots : List ℕ
  pub tried : IsTried g slots
  pub line : Diagram
  pub reduced : IsReduced line
  pub is_line : Contains (functions_of g) (value line)
  pub level : ℕ
  pub filled : IsFilledBy (level_count (state_domains g)) budget (IsOfCopied g slots line level)

-- So does what the lines' functions are made of, in the order of a state: the hidden tables, the inputs, the outputs.
abbrev pub IsFullByCompiling : GameData → ℕ → Type 0
IsFullByCompiling g budget = IsFilledBy (level_count (state_domains g)) budget (IsOfLines g)

-- Under one order, what is held and one operation's unfinished results have reduced diagrams with together exactly so many
-- different parts, constants included: while the lines' functions are made, or while they are copied.
abbrev pub IsFullOrder : GameData → ℕ → Type 0
IsFullOrder g budget = IsFullByCompiling g budget ⊎ IsFullByCopying g budget

-- so it is for the game of a specification
abbrev pub CrowdedOrder : Specification → ℕ → Type 0
CrowdedOrder s budget = IsFullOrder (game_of s) budget
