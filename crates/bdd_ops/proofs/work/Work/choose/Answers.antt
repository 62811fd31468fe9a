use Rattle.std.proofs.Common.{◌≡◌, length, arith}
use Rattle.bdd_ops.proofs.RowLemmas.{all_chosen}
use Rattle.bdd_ops.proofs.work.Work.choose.Goals as goal

pub returns-clause-same : goal.returns-clause-same
returns-clause-same c = λ s here.
    let long : length c.loop-i.next ≡ length c.args.row.now = omega arith in
    all_chosen c.args.self.now c.args.level c.args.bit c.args.row.now c.loop-i.next long (λ k d below. c.loop-i.invariant k d (omega arith)) s here
