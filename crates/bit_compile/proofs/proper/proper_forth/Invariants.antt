use Rattle.std.proofs.Common.{Ok, map}
use Rattle.spec_model.specs.Steps.{below}
use Rattle.bit_compile.specs.Making.{Makes}
use Rattle.bit_compile.specs.Compiled.{all_of}
use Rattle.bit_compile.specs.Proper.{has_some_value}
use Rattle.bit_compile.proofs.proper.proper_forth.Given as goal

-- the places so far
abbrev pub invariant-loop-k : goal.invariant-loop-k
invariant-loop-k l = Makes l.fn.diagrams l.diagrams (Ok l.product) (all_of (map (has_some_value l.codes l.at) (below l.k)))
