use Rattle.std.proofs.Common.{◌<◌, length, get_or, arith}
use Rattle.std.proofs.lemmas.List.{get_or_default}
use Rattle.bdd_store.specs.declared.edge.Edge.{Edge}
use Rattle.bdd_ops.proofs.RowLemmas.{least_more}
use Rattle.bdd_ops.proofs.SearchLemmas.{top_is}
use Rattle.bdd_ops.proofs.work.Work.least_level.Goals as goal

pub before-least-requires-clause-within : goal.before-least-requires-clause-within
before-least-requires-clause-within c = omega (arith, c.loop-e.invariant.within, c.requires.levels)

pub loop-e-preserved : goal.loop-e-preserved
loop-e-preserved c =
    let d : Edge = record { 0 = 0 } in
    let e : Edge = get_or c.args.row.now c.loop-e.e-index d in
    let inside : c.loop-e.e-index < length c.args.row.now = omega arith in
    least_more c.args.self.now c.args.row.now c.args.levels c.loop-e.e-index c.loop-e.least c.before-least.result e inside (get_or_default c.args.row.now c.loop-e.e-index d e inside) c.before-least.ensures c.loop-e.invariant

pub returns-clause-row : goal.returns-clause-row
returns-clause-row c = record { live = c.requires.live; from = λ k d below. c.loop-e.invariant.from k d (omega arith) }

pub returns-clause-least : goal.returns-clause-least
returns-clause-least c = c.loop-e.invariant.no_less

pub returns-clause-top : goal.returns-clause-top
returns-clause-top c = top_is c.args.self.now c.args.row.now c.loop-e.least (omega (arith, c.loop-e.invariant.within, c.requires.levels)) (returns-clause-row c) (λ level le row. c.loop-e.invariant.no_less level (omega (arith, le, c.requires.levels)) row)
