-- How many nodes suffice for a game, whatever is made of them, and what a refusal tells of the budget.
use Rattle.std.specs.Prelude.{ℕ, ◌+◌, ◌^◌, ◌≤◌, sum_by, Option, Some, None}
use Rattle.spec_model.specs.Games.{GameData}
use Rattle.spec_model.specs.Sizes.{domain_size}
use Rattle.spec_model.specs.Needs.{bits_for}
use Rattle.node_table.specs.Table.{Table}
use Rattle.region_bdd.specs.declared.own.Refused.{Refused}

-- the bits of a state: those of its hidden tables and of its variables
abbrev pub bits_of_game : GameData → ℕ
bits_of_game g = sum_by (λ h. bits_for h.values) g.hidden + sum_by (λ v. bits_for (domain_size v.domain)) g.variables

-- One more than there are reduced diagrams over the present and next bits of a state.
abbrev pub need_of_game : GameData → ℕ
need_of_game g = 1 + 2 ^ (4 ^ bits_of_game g)

-- after a refusal the budget is no more than there are reduced diagrams over the levels
abbrev pub IsTight : Option Refused → Table → Type 0
IsTight None t = Unit {0}
IsTight (Some refused) t = t.budget ≤ 2 ^ (2 ^ t.levels)
