use Rattle.std.proofs.Common.{◌≡◌, ◌+◌, ℕ}
use Rattle.bdd_store.specs.State.{roots_at}
use Rattle.bdd_bits.specs.Calls.{SameNodes}
use Rattle.bit_compile.specs.CaseRoots.{roots_in}
use Rattle.bit_compile.proofs.cases.release_all.Given as goal

-- what is kept besides what is left was kept at first but for what was given
abbrev pub invariant-loop-case : goal.invariant-loop-case
invariant-loop-case l =
    record {
      left : (n : ℕ) → roots_at l.diagrams.state n + roots_in l.fn.cases.items n ≡ roots_at l.fn.diagrams.state n + roots_in l.cases.items n;
      nodes : SameNodes l.fn.diagrams l.diagrams;
    }

abbrev pub decreases-loop-case : goal.decreases-loop-case
decreases-loop-case l = goal.left-loop-case l
