use Rattle.spec_model.specs.DiagramReads.{bits_of}
use Rattle.bdd_ops.specs.Together.{AreFirst}
use Rattle.bdd_ops.proofs.rows.write_first.Given as goal

abbrev pub invariant-loop-level : goal.invariant-loop-level
invariant-loop-level l = AreFirst l.fixed 0 l.level (bits_of l.out)
