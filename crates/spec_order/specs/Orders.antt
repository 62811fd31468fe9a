-- Orders of a game's variables, and how many nodes its lines' functions have under each.
use Rattle.std.specs.Prelude.{◌*◌, ◌≤◌, ◌++◌, ℕ, List, map, length}
use Rattle.std.specs.List.{range_with_len}
use Rattle.spec_model.specs.Games.{GameData}
use Rattle.bit_compile.specs.Domains.{state_domains, width_of}
use Rattle.bit_compile.specs.Compiled.{place_of}
use Rattle.variable_order.specs.Sizes.{HasNodes}
use Rattle.variable_order.specs.Climbing.{moved, IsMove, Reaches, IsClimb}
use Rattle.line_functions.specs.Functions.{functions_of}

-- how many levels each slot of a state has: those of its present bits, and those of its next ones
abbrev pub widths_of : GameData → List ℕ
widths_of g = map (λ d. 2 * width_of d) (state_domains g)

-- the variables' numbers in the order in which they are declared
abbrev pub declared : GameData → List ℕ
declared g = range_with_len 0 (length g.variables)

-- the slots under an order of the variables: under each order the hidden tables' stand first
abbrev pub slots_for : GameData → List ℕ → List ℕ
slots_for g order = range_with_len 0 (length g.hidden) ++ map (place_of g) order

-- With the variables in this order, the reduced diagrams of the lines' functions have together so many different parts, both
-- constants counted.
abbrev pub HasNodesUnder : GameData → List ℕ → ℕ → Type 0
HasNodesUnder g order n = HasNodes (widths_of g) (functions_of g) (slots_for g order) n

-- no order that moving one variable makes of this one has fewer nodes
abbrev pub IsUnbettered : GameData → List ℕ → ℕ → Type 0
IsUnbettered g order n = (i j : ℕ) → IsMove 0 order i j → (k : ℕ) × HasNodesUnder g (moved order i j) k × (n ≤ k)

-- Climbing from the declared order, which has so many nodes, leads to these slots, which have so many: from each order the first of
-- the best moves leads to the next one. One slot is moved at a time, and those of the hidden tables stay first, so what moves is a
-- variable.
abbrev pub LeadsTo : GameData → ℕ → List ℕ → ℕ → Type 0
LeadsTo g n slots k = Reaches (length g.hidden) (widths_of g) (functions_of g) (slots_for g (declared g)) n slots k

-- Climbing from the declared order, which has so many nodes, ends at this order, which has so many: it leads there, and no move
-- makes fewer nodes.
abbrev pub IsClimbTo : GameData → ℕ → List ℕ → ℕ → Type 0
IsClimbTo g n order k = IsClimb (length g.hidden) (widths_of g) (functions_of g) (slots_for g (declared g)) n (slots_for g order) k
