use Rattle.std.proofs.Common.{◌∙◌, ap, arith}
use Rattle.spec_model.specs.Diagrams.{value}
use Rattle.bdd_store.specs.declared.edge.Edge.{Edge}
use Rattle.bdd_ops.proofs.RowLemmas.{one_false, each_true}
use Rattle.bdd_ops.proofs.work.Work.all_true.Goals as goal

pub returns-then-not-truth : goal.returns-then-not-truth
returns-then-not-truth c = λ s.
    let d : Edge = record { 0 = 0 } in
    one_false c.args.self.now c.args.row.now s c.loop-e.e-index d (omega arith) (ap (λ g. value g s) c.truth.ensures ∙ c.if-not-truth.true)

pub returns : goal.returns
returns c = λ s. each_true c.args.self.now c.args.row.now s (λ k d below. c.loop-e.invariant s k d (omega arith))
