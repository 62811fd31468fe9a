use Rattle.std.proofs.Common.{◌≡◌, length}
use Rattle.bdd_search.proofs.FixLemmas.{FixesNone}
use Rattle.bdd_search.proofs.fixing.loosen.Given as goal

abbrev pub invariant-loop-level : goal.invariant-loop-level
invariant-loop-level l = record {
  long : length l.fixed ≡ length l.initial.fixed;
  none : FixesNone l.fixed l.level;
}
