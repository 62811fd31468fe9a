use Rattle.std.proofs.Common.{Ok, take}
use Rattle.bit_compile.specs.Making.{Makes}
use Rattle.bdd_sets.specs.Members.{all_true, functions_at}
use Rattle.bdd_sets.proofs.spent.all_of.Given as goal

abbrev pub invariant-loop-member : goal.invariant-loop-member
invariant-loop-member l = Makes l.fn.diagrams l.diagrams (Ok l.whole) (all_true (functions_at l.fn.diagrams (take l.member-index l.members)))
