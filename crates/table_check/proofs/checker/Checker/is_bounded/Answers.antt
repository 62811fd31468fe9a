use Rattle.std.proofs.Common.{◌≡◌, ℕ, ◌<◌, ◌^◌, ◌∙◌, List, length, nat_lt, sum, ap, arith}
use Rattle.strategy_tables.specs.Rules.{bounds}
use Rattle.strategy_tables.specs.Views.{node_data}
use Rattle.table_check.specs.Nodes.{game_in, nodes_in}
use Rattle.table_check.proofs.Adding.{bounds_are, capped_sum}
use Rattle.table_check.proofs.checker.Checker.is_bounded.Goals as goal

pub returns : goal.returns
returns c =
    let self = c.args.self.now in
    let g = game_in self in
    let v = node_data c.args.v.now in
    let limit = c.args.limit in
    let sums = c.write_bounds.new.sums in
    let long = c.write_bounds.auto.sums in
    let fits : limit < 2 ^ 64 = omega arith in
    c.sum_is_below.ensures
    ∙ (ap (λ (s : List ℕ). nat_lt (sum s) limit) (bounds_are g (nodes_in self) v.layer v.goal sums (long ∙ c.requires.room) (λ i inside. c.write_bounds.ensures i (omega (arith, inside, long))))
    ∙ capped_sum (bounds g (nodes_in self) v.layer v.goal) limit fits)
