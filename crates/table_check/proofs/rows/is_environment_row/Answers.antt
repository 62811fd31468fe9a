use Rattle.table_check.specs.Turns.{game_at}
use Rattle.table_check.proofs.Naming.{outputs_move}
use Rattle.table_check.proofs.rows.is_environment_row.Goals as goal

pub names_each-requires-clause-moves : goal.names_each-requires-clause-moves
names_each-requires-clause-moves c = outputs_move (game_at c.args.turn.now) c.args.reply.now c.requires.reply _ c.requires.outputs
