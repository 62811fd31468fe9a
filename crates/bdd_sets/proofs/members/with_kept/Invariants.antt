use Rattle.std.proofs.Common.{◌++◌, Ok, List, take}
use Rattle.spec_model.specs.Diagrams.{Function}
use Rattle.bdd_bits.specs.Contents.{Contents}
use Rattle.bdd_sets.specs.Members.{AreRoots, functions_at}
use Rattle.bdd_sets.specs.Lists.{MakesList}
use Rattle.bdd_sets.proofs.members.with_kept.Given as goal

-- the functions of the roots so far come after those of the list
abbrev pub invariant-loop-root : goal.invariant-loop-root
invariant-loop-root l =
    (base : Contents) (fs : List Function) → MakesList base l.fn.diagrams (Ok l.fn.so_far) fs → AreRoots base l.roots → MakesList base l.diagrams (Ok l.list) (fs ++ functions_at base (take l.root-index l.roots))
