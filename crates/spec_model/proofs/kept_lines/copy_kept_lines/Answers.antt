use Rattle.std.proofs.Common.{arith}
use Rattle.std.proofs.lemmas.Grind.{common_steps}
use Rattle.spec_model.proofs.kept_lines.copy_kept_lines.Goals as goal

pub loop-line-preserved : goal.loop-line-preserved
loop-line-preserved c = let told = c.line_stays.ensures c.args.kept.now c.in_ok-set.ensures in grind (arith, common_steps)
