use Rattle.std.proofs.Common.{◌≤◌, Ok, drop, length, map}
use Rattle.spec_model.specs.Steps.{below}
use Rattle.bit_compile.specs.Making.{Makes}
use Rattle.bit_compile.specs.Compiled.{all_of}
use Rattle.bit_compile.specs.Proper.{has_some_value}
use Rattle.bit_compile.proofs.proper.proper_back.Given as goal

-- the places behind
abbrev pub invariant-loop-last : goal.invariant-loop-last
invariant-loop-last l =
    record {
      made : Makes l.fn.diagrams l.diagrams (Ok l.product) (all_of (drop l.last (map (has_some_value l.codes l.at) (below (length l.codes)))));
      within : l.last ≤ length l.codes;
    }

abbrev pub decreases-loop-last : goal.decreases-loop-last
decreases-loop-last l = l.last
