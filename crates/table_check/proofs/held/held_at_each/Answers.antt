use Rattle.std.proofs.Common.{◌∙◌, Some, sym, ap}
use Rattle.strategy_tables.specs.declared.tables.Node.{Node}
use Rattle.strategy_tables.specs.Views.{node_data}
use Rattle.table_check.proofs.Marking.{node_there}
use Rattle.table_check.proofs.held.held_at_each.Goals as goal

pub held_in-requires-clause-inside : goal.held_in-requires-clause-inside
held_in-requires-clause-inside c =
    let v = c.v-item.result in
    c.requires.states c.loop-v.v-index (node_data v) (node_there c.args.nodes.now c.loop-v.v-index v c.loop-v-test.true ∙ ap (λ (w : Node). Some (node_data w)) (sym c.v-item.is))
