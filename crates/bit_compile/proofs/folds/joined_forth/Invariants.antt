use Rattle.std.proofs.Common.{◌≡◌, Ok, take, drop, map}
use Rattle.bdd_ops.specs.Functions.{joined, join_of}
use Rattle.bdd_bits.specs.Contents.{function_at}
use Rattle.bit_compile.specs.Making.{Makes}
use Rattle.bit_compile.specs.CaseRoots.{AreKept, is_all, folded}
use Rattle.bit_compile.proofs.folds.joined_forth.Given as goal

-- the functions so far, and those that are left
abbrev pub invariant-loop-case : goal.invariant-loop-case
invariant-loop-case l =
    let first = l.fn.diagrams in
    record {
      made : Makes first l.diagrams (Ok l.whole) (function_at l.diagrams l.whole);
      kept : AreKept first.state (drop l.case-index l.cases);
      so_far : function_at l.diagrams l.whole ≡ folded l.fold (take l.case-index (map (λ x. function_at first x.root) l.cases));
      same : joined (join_of (is_all l.fold)) (function_at l.diagrams l.whole) (folded l.fold (map (λ x. function_at first x.root) (drop l.case-index l.cases))) ≡ folded l.fold (map (λ x. function_at first x.root) l.cases);
    }
