use Rattle.std.proofs.Common.{◌≡◌, ℕ, ◌∙◌, List, length, nat_lt, sum, ap, arith}
use Rattle.strategy_tables.specs.Rules.{greatest_ranks}
use Rattle.table_check.specs.Nodes.{game_in, nodes_in}
use Rattle.table_check.proofs.Adding.{ranks_are, one_more}
use Rattle.table_check.proofs.checker.Checker.ranks_are_below.Goals as goal

pub returns : goal.returns
returns c =
    let self = c.args.self.now in
    let g = game_in self in
    let sums = c.write_ranks.new.sums in
    let long = c.write_ranks.auto.sums in
    c.sum_is_below.ensures
    ∙ (ap (λ (s : List ℕ). nat_lt (sum s) c.args.k) (ranks_are g (nodes_in self) sums (long ∙ c.requires) (λ i inside. c.write_ranks.ensures i (omega (arith, inside, long))))
    ∙ one_more (sum (greatest_ranks g (nodes_in self))) c.args.k)
