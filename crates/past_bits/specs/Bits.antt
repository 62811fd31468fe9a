-- The hidden tables of a specification's past operators.
use Rattle.std.specs.Prelude.{◌≡◌, ℕ, ◌^◌, ◌<◌, true, List, map, length, is_some, nat_eq}
use Rattle.std.specs.List.{list_all}
use Rattle.indexmap.specs.IndexMap.{IndexMap, get}
use Rattle.spec_model.specs.declared.expr.Expr.{Expr}
use Rattle.spec_model.specs.declared.game.Hidden.{Hidden}
use Rattle.spec_model.specs.Syntax.{Formula, PastOf, Specification}
use Rattle.spec_model.specs.Views.{formula}
use Rattle.spec_model.specs.Sizes.{same_formula, past_operators}
use Rattle.spec_model.specs.WellMade.{all_differ}
use Rattle.spec_model.specs.Games.{HiddenData}
use Rattle.spec_model.specs.GameViews.{hidden_data}
use Rattle.game_values.specs.Safety.{formulas_in}
use Rattle.past_bits.specs.declared.operators.Operator.{Operator}
use Rattle.past_bits.specs.Digests.{digest_of}
pub use Rattle.past_bits.specs.Tables.{table_with, table_of, tables_of}

-- the tree of an operator
abbrev pub tree_of : Operator → Formula
tree_of o = PastOf o.op (formulas_in o.operands.now)

-- no two are one tree, a number of 32 bits serves for each, and a digest that has no place is of none of them
pub record AreNumbered {S : Type 0} (os : List Operator) (places : IndexMap ℕ ℕ S) : Type 0 where
  pub different : all_differ same_formula (map tree_of os) ≡ true
  pub few : length os < 2 ^ 32
  pub placed : list_all (λ o. is_some (get nat_eq places (digest_of (tree_of o)))) os ≡ true

-- Each different past operator, those within others first and by first meeting in text order, with its table.
abbrev pub bits_of : Specification → List (Formula × HiddenData)
bits_of s = map (λ e. (e, table_of (past_operators s) e)) (past_operators s)

-- what a pair of the program stands for
abbrev pub bit_data : Expr × Hidden → Formula × HiddenData
bit_data b = (formula b.0, hidden_data b.1)
