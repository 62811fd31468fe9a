use Rattle.std.proofs.Common.{sym, ◌∙◌}
use Rattle.strategy_tables.specs.Views.{node_data}
use Rattle.table_check.proofs.room.Room.read.Goals as goal

pub write_next-requires-clause-state : goal.write_next-requires-clause-state
write_next-requires-clause-state c = ((node_data c.args.v.now).state, c.requires.state, sym c.in_ok-write_state.ensures ∙ sym c.deref.ensures.value)

pub returns-clause-read : goal.returns-clause-read
returns-clause-read c =
    let s = (node_data c.args.v.now).state in
    let lists = sym c.in_ok-write_state.ensures in
    let seen = lists ∙ sym c.deref.ensures.value in
    (c.requires.state, record { lists = lists; read = c.write_next.ensures.cells s c.requires.state seen; next = c.write_next.ensures.value s c.requires.state seen })
