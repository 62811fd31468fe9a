use Rattle.std.proofs.Common.{Ok, take}
use Rattle.spec_model.specs.Diagrams.{Function}
use Rattle.bdd_bits.specs.Contents.{Contents, function_at}
use Rattle.bit_compile.specs.Making.{Makes}
use Rattle.bdd_sets.specs.Members.{AreRoots}
use Rattle.bdd_products.proofs.ProductLemmas.{joined_out}
use Rattle.bdd_products.proofs.product.taken_out.Given as goal

-- the target joined with the lines so far
abbrev pub invariant-loop-k : goal.invariant-loop-k
invariant-loop-k l = (base : Contents) (f : Function) → Makes base l.fn.diagrams (Ok l.fn.target) f → AreRoots base l.fn.product.lines.items → Makes base l.diagrams (Ok l.made) (joined_out (function_at base) f (take l.k l.product.lines.items) (take l.k l.product.outs.items))
