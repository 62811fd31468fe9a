use Rattle.strategy_tables.proofs.SystemWins.{system_tables_win}
use Rattle.strategy_tables.proofs.laws.sound_system_tables_win.Goals as goal

pub returns : goal.returns
returns c = system_tables_win
