use Rattle.std.proofs.Common.{ℕ, ◌<◌, get_or}
use Rattle.bdd_store.specs.declared.edge.Edge.{Edge}
use Rattle.bdd_ops.specs.Together.{IsChosen}
use Rattle.bdd_ops.proofs.work.Work.choose.Given as goal

abbrev pub invariant-loop-i : goal.invariant-loop-i
invariant-loop-i l =
    (k : ℕ) (d : Edge) → k < l.i → IsChosen l.self l.level l.bit (get_or l.row k d) (get_or l.next k d)
