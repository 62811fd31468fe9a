use Rattle.std.proofs.Common.{◌≡◌, ◌≤◌, Ok, length, drop, map}
use Rattle.bdd_bits.specs.Contents.{function_at}
use Rattle.bit_compile.specs.Making.{Makes}
use Rattle.bit_compile.specs.CaseRoots.{folded}
use Rattle.bit_compile.proofs.folds.joined_back.Given as goal

-- those behind are joined
abbrev pub invariant-loop-last : goal.invariant-loop-last
invariant-loop-last l =
    let first = l.fn.diagrams in
    record {
      made : Makes first l.diagrams (Ok l.whole) (function_at l.diagrams l.whole);
      within : l.last ≤ length l.cases;
      same : function_at l.diagrams l.whole ≡ folded l.fold (map (λ x. function_at first x.root) (drop l.last l.cases));
    }

abbrev pub decreases-loop-last : goal.decreases-loop-last
decreases-loop-last l = l.last
