use Rattle.strategy_tables.proofs.EnvironmentWins.{environment_tables_win}
use Rattle.strategy_tables.proofs.laws.sound_environment_tables_win.Goals as goal

pub returns : goal.returns
returns c = environment_tables_win
