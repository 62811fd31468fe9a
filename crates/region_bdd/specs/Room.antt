-- What the object's room for searches has place for.
use Rattle.std.specs.Prelude.{◌≡◌, ◌+◌, ◌<◌, ℕ, Option, Some, None, length}
use Rattle.bdd_sets.specs.declared.moves.Members.{Members}
use Rattle.bdd_products.specs.declared.early.Early.{Early}
use Rattle.region_bdd.specs.declared.own.Own.{Own}
use Rattle.region_bdd.specs.declared.search.Search.{Search}

-- how many diagrams the lines of a move have
abbrev pub member_count : Members → ℕ
member_count m = length m.inputs.items + (length m.outputs.items + length m.update.items)

-- how many diagrams products have
abbrev pub line_count : Early → ℕ
line_count e = length e.inputs.lines.items + length e.replies.lines.items

-- if there are any
abbrev pub early_count : Option Early → ℕ
early_count None = 0
early_count (Some e) = line_count e

-- a place for each level, and place for the lines of a move, as members and as products, and one diagram more
pub record IsRoom (levels : ℕ) (own : Own) (search : Search) : Type 0 where
  pub bits : length search.bits.items ≡ levels
  pub fixed : length search.fixed.items ≡ levels
  pub levels_are : search.all.levels ≡ levels
  pub first : member_count own.first < search.all.most
  pub later : member_count own.step.later < search.all.most
  pub early : early_count own.early < search.all.most
