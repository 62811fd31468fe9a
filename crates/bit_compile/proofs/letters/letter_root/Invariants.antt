use Rattle.std.proofs.Common.{◌≡◌, Ok, drop, map, true}
use Rattle.bdd_ops.specs.Functions.{joined, join_of}
use Rattle.bdd_bits.specs.Contents.{function_at}
use Rattle.bit_compile.specs.Making.{Makes}
use Rattle.bit_compile.specs.Compiled.{is_letter}
use Rattle.bit_compile.specs.CaseRoots.{AreKept}
use Rattle.bit_compile.specs.Named.{begins_letter}
use Rattle.bit_compile.proofs.NamedSteps.{halved}
use Rattle.bit_compile.proofs.letters.letter_root.Given as goal

-- the atoms so far, and those that are left with the rest of the letter
abbrev pub invariant-loop-atom : goal.invariant-loop-atom
invariant-loop-atom l =
    let first = l.fn.diagrams in
    record {
      made : Makes first l.diagrams (Ok l.product) (function_at l.diagrams l.product);
      kept : AreKept first.state (drop l.atom-index l.atoms);
      left_is : l.left ≡ halved l.atom-index l.letter;
      so_far : function_at l.diagrams l.product ≡ begins_letter l.atom-index (map (λ x. function_at first x.root) l.atoms) l.letter;
      same : joined (join_of true) (function_at l.diagrams l.product) (is_letter (map (λ x. function_at first x.root) (drop l.atom-index l.atoms)) l.left) ≡ is_letter (map (λ x. function_at first x.root) l.atoms) l.letter;
    }
