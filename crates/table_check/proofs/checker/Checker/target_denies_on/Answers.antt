use Rattle.std.proofs.Common.{◌∙◌, sym, ap}
use Rattle.strategy_tables.specs.Tables.{passes_if_some}
use Rattle.strategy_tables.specs.Rules.{denies_on}
use Rattle.strategy_tables.specs.Views.{node_data}
use Rattle.table_check.specs.Nodes.{game_in, held_at}
use Rattle.table_check.proofs.Marking.{node_there, held_there}
use Rattle.table_check.proofs.checker.Checker.target_denies_on.Goals as goal

pub denies_on-requires-clause-next : goal.denies_on-requires-clause-next
denies_on-requires-clause-next c =
    let self = c.args.self.now in
    held_there (held_at (game_in self)) self.nodes.now self.held.now c.requires.checker.held c.args.target c.index-self-target.result _ c.if-target-self.false

pub returns : goal.returns
returns c =
    let self = c.args.self.now in
    c.denies_on.ensures
    ∙ ap (passes_if_some (denies_on (game_in self) (node_data c.args.v.now))) (sym (node_there self.nodes.now c.args.target c.index-self-target.result c.if-target-self.false))
