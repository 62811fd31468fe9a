use Rattle.pattern_rows.proofs.Filled.{typed_has_table}
use Rattle.pattern_rows.proofs.laws.typed_patterns_have_tables.Goals as goal

pub returns : goal.returns
returns c = typed_has_table
