use Rattle.std.proofs.Common.{◌≡◌, false, Ok, take, drop}
use Rattle.bdd_ops.specs.Functions.{joined, join_of}
use Rattle.bdd_bits.specs.Contents.{function_at}
use Rattle.bit_compile.specs.Making.{Makes}
use Rattle.bit_compile.specs.Compiled.{some_pair}
use Rattle.bit_compile.specs.CaseRoots.{AreKept, cases_at, passes}
use Rattle.bit_compile.proofs.pairs.pair_by_pair.Given as goal

-- the rows so far, and those that are left
abbrev pub invariant-loop-x : goal.invariant-loop-x
invariant-loop-x l =
    let first = l.fn.diagrams in
    record {
      made : Makes first l.diagrams (Ok l.sum) (function_at l.diagrams l.sum);
      kept : AreKept first.state (drop l.x-index l.xs);
      so_far : function_at l.diagrams l.sum ≡ some_pair (passes l.test) (take l.x-index (cases_at first l.xs)) (cases_at first l.ys);
      same : joined (join_of false) (function_at l.diagrams l.sum) (some_pair (passes l.test) (cases_at first (drop l.x-index l.xs)) (cases_at first l.ys)) ≡ some_pair (passes l.test) (cases_at first l.xs) (cases_at first l.ys);
    }
