use Rattle.std.proofs.Common.{◌≡◌, inr, rules}
use Rattle.bdd_ops.proofs.WayLemmas.{one_part}
use Rattle.bdd_ops.proofs.work.Work.high_part.Goals as goal

pub returns-then-eq : goal.returns-then-eq
returns-then-eq c =
    let one : c.split_at.result.0.0 ≡ c.split_at.result.1.0 = search rules in
    inr (one_part c.args.self.now c.args.level c.args.e.0 c.split_at.result.0.0 c.split_at.result.1.0 one c.split_at.ensures)
