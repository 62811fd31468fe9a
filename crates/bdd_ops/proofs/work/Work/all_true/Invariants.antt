use Rattle.std.proofs.Common.{◌≡◌, ℕ, ◌<◌, true, get_or}
use Rattle.spec_model.specs.Diagrams.{Bits}
use Rattle.bdd_store.specs.declared.edge.Edge.{Edge}
use Rattle.bdd_ops.specs.Contents.{function_at}
use Rattle.bdd_ops.proofs.work.Work.all_true.Given as goal

abbrev pub invariant-loop-e : goal.invariant-loop-e
invariant-loop-e l =
    (s : Bits) (k : ℕ) (d : Edge) → k < l.e-index → function_at l.self (get_or l.row k d).0 s ≡ true
