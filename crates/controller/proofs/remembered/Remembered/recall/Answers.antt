use Rattle.std.proofs.Common.{◌∙◌, ◌-◌, sym, ap, arith}
use Rattle.controller.specs.declared.spot.Spot.{Spot}
use Rattle.controller.specs.Places.{memory_at}
use Rattle.controller.proofs.Spotting.{recalled}
use Rattle.controller.proofs.remembered.Remembered.recall.Goals as goal

pub returns-clause-memory : goal.returns-clause-memory
returns-clause-memory c = λ m is.
    let q = c.args.spot in
    let goal_from = ap (λ (q : Spot). q.goal) is in
    let index_from = ap (λ (q : Spot). q.index) is in
    ap memory_at c.remember.ensures ∙ recalled m (q.goal - 1) q.rank (q.index - 1) (omega (arith, goal_from)) (ap (λ (q : Spot). q.rank) (sym is)) (omega (arith, index_from))
