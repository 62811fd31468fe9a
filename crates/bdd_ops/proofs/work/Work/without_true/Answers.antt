use Rattle.std.proofs.Common.{◌<◌, length, get_or, subst, sym, List, arith}
use Rattle.std.proofs.lemmas.List.{get_or_default}
use Rattle.bdd_store.specs.declared.edge.Edge.{Edge}
use Rattle.bdd_ops.proofs.LeavingLemmas.{AreLeft, left_more, none_left, all_left}
use Rattle.bdd_ops.proofs.work.Work.without_true.Goals as goal

pub loop-e-init : goal.loop-e-init
loop-e-init c =
    record {
      left = subst (λ (es : List Edge). AreLeft c.args.self.now c.args.row.now es 0) (sym c.clear.ensures.items) (none_left c.args.self.now c.args.row.now);
      capacity = omega (arith, c.clear.ensures.capacity);
    }

pub loop-e-preserved : goal.loop-e-preserved
loop-e-preserved c =
    let d : Edge = record { 0 = 0 } in
    let e : Edge = get_or c.args.row.now c.loop-e.e-index d in
    let inside : c.loop-e.e-index < length c.args.row.now = omega arith in
    record {
      left = left_more c.args.self.now c.args.row.now c.loop-e.left.items c.loop-e.e-index e inside (get_or_default c.args.row.now c.loop-e.e-index d e inside) c.push_unless_true.new.left.items c.requires.live c.push_unless_true.ensures.items c.loop-e.invariant.left;
      capacity = omega (arith, c.loop-e.invariant.capacity, c.push_unless_true.ensures.capacity);
    }

pub returns-clause-live : goal.returns-clause-live
returns-clause-live c = c.loop-e.invariant.left.live

pub returns-clause-no_more : goal.returns-clause-no_more
returns-clause-no_more c = omega (arith, c.loop-e.invariant.left.no_more)

pub returns-clause-same : goal.returns-clause-same
returns-clause-same c = λ s. all_left c.args.self.now c.args.row.now c.loop-e.left.items c.loop-e.e-index (omega arith) c.loop-e.invariant.left s
