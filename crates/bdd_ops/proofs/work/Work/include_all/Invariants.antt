use Rattle.std.proofs.Common.{◌≡◌, ◌++◌, take}
use Rattle.bdd_ops.proofs.work.Work.include_all.Given as goal

abbrev pub invariant-loop-root : goal.invariant-loop-root
invariant-loop-root l =
    l.all ≡ record { levels = l.initial.all.levels; most = l.initial.all.most; roots = l.initial.all.roots ++ take l.root-index l.roots }
