use Rattle.std.proofs.Common.{◌≡◌, ◌||◌, false, Ok, take, drop}
use Rattle.bdd_ops.specs.Functions.{joined, join_of}
use Rattle.bdd_bits.specs.Contents.{function_at}
use Rattle.bit_compile.specs.Making.{Makes}
use Rattle.bit_compile.specs.CaseRoots.{AreKept, case_at, cases_at, passes}
use Rattle.bit_compile.specs.Named.{row_with}
use Rattle.bit_compile.proofs.Folding.{row_of}
use Rattle.bit_compile.proofs.pairs.or_row.Given as goal

-- the pairs so far, and those that are left
abbrev pub invariant-loop-y : goal.invariant-loop-y
invariant-loop-y l =
    let first = l.fn.diagrams in
    let f = function_at first l.x.root in
    record {
      made : Makes first l.diagrams (Ok l.row) (function_at l.diagrams l.row);
      kept : AreKept first.state (drop l.y-index l.ys);
      so_far : function_at l.diagrams l.row ≡ (λ s. function_at first l.sum s || row_with (passes l.test) (case_at first l.x) (take l.y-index (cases_at first l.ys)) s);
      same : joined (join_of false) (function_at l.diagrams l.row) (row_of (passes l.test) l.x.value f (cases_at first (drop l.y-index l.ys))) ≡ joined (join_of false) (function_at first l.sum) (row_of (passes l.test) l.x.value f (cases_at first l.ys));
    }
