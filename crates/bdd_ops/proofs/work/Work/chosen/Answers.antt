use Rattle.bdd_ops.proofs.RowLemmas.{chosen_high, chosen_low}
use Rattle.bdd_ops.proofs.work.Work.chosen.Goals as goal

pub returns-then-bit : goal.returns-then-bit
returns-then-bit c = chosen_high c.args.self.now c.args.level c.args.bit c.args.e c.split_at.result.0 c.split_at.result.1 c.if-bit.true c.split_at.ensures

pub returns-else-bit : goal.returns-else-bit
returns-else-bit c = chosen_low c.args.self.now c.args.level c.args.bit c.args.e c.split_at.result.0 c.split_at.result.1 c.if-bit.false c.split_at.ensures
