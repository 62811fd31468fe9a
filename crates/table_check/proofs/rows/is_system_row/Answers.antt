use Rattle.table_check.specs.Turns.{game_at}
use Rattle.table_check.proofs.Naming.{inputs_move}
use Rattle.table_check.proofs.rows.is_system_row.Goals as goal

pub names_each-requires-clause-moves : goal.names_each-requires-clause-moves
names_each-requires-clause-moves c = inputs_move (game_at c.args.turn.now) _ c.requires.inputs
