use Rattle.std.proofs.Common.{map, arith}
use Rattle.spec_model.specs.Views.{line_data}
use Rattle.spec_model.proofs.Forced.{fold_below}
use Rattle.spec_model.proofs.kept_lines.forced_line.Goals as goal

pub overflow_add-result : goal.overflow_add-result
overflow_add-result c = let most = fold_below 0 4096 (map line_data c.args.lines.now) (omega arith) c.requires.room in grind arith
