use Rattle.std.proofs.Common.{◌≡◌, ◌<◌, ◌∙◌, length, get_or, arith}
use Rattle.std.proofs.lemmas.List.{get_or_default}
use Rattle.bdd_store.specs.declared.edge.Edge.{Edge}
use Rattle.bdd_ops.proofs.RowLemmas.{row_false, row_settled, settles_more}
use Rattle.bdd_ops.proofs.work.Work.settle.Goals as goal

pub returns-then-is_constant-clause-none : goal.returns-then-is_constant-clause-none
returns-then-is_constant-clause-none c = λ same level row s agrees.
    let d : Edge = record { 0 = 0 } in
    let e : Edge = get_or c.loop-i.row c.loop-i.i d in
    let inside : c.loop-i.i < length c.args.row.now = omega arith in
    let was : e ≡ get_or c.args.row.now c.loop-i.i e = c.loop-i.invariant.rest c.loop-i.i d (omega arith) ∙ get_or_default c.args.row.now c.loop-i.i d e inside in
    row_false c.args.self.now c.args.fixed.now c.args.row.now c.loop-i.i e c.settled-edge.result inside was c.settled-edge.ensures (c.is_constant.ensures c.if-is_constant.true) level row s agrees

pub loop-i-preserved : goal.loop-i-preserved
loop-i-preserved c =
    let d : Edge = record { 0 = 0 } in
    let e : Edge = get_or c.loop-i.row c.loop-i.i d in
    let inside : c.loop-i.i < length c.loop-i.row = omega arith in
    let long : length c.loop-i.row ≡ length c.args.row.now = omega arith in
    settles_more c.args.self.now c.args.fixed.now c.args.row.now c.loop-i.row c.loop-i.i e c.settled-edge.result inside long (get_or_default c.loop-i.row c.loop-i.i d e inside) c.settled-edge.ensures c.loop-i.invariant

pub returns-clause-settles : goal.returns-clause-settles
returns-clause-settles c = λ same level row.
    let long : length c.loop-i.row ≡ length c.args.row.now = omega arith in
    row_settled c.args.self.now c.args.fixed.now c.args.row.now c.loop-i.row long (λ k d below. c.loop-i.invariant.each k d (omega arith)) level row
