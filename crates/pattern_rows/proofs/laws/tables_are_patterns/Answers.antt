use Rattle.pattern_rows.proofs.Runs.{is_table}
use Rattle.pattern_rows.proofs.laws.tables_are_patterns.Goals as goal

pub returns : goal.returns
returns c = is_table
