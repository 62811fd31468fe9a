use Rattle.std.proofs.Common.{◌≡◌, ◌≤◌, ◌-◌, List, map, vec_len}
use Rattle.spec_model.specs.Syntax.{Formula}
use Rattle.spec_model.specs.Games.{letter_of}
use Rattle.spec_model.specs.TriggerStates.{Written}
use Rattle.trigger_dfa.specs.Walks.{Walks}
use Rattle.trigger_dfa.proofs.Reached.{met_by}
use Rattle.trigger_dfa.proofs.walk.Walk.explore.Given as goal

abbrev pub invariant-loop-k : goal.invariant-loop-k
invariant-loop-k l =
    ((atoms : List Formula) (w : Written) → Walks atoms w l.self → l.words.items ≡ map letter_of (met_by atoms w l.k))
    × (vec_len l.words ≤ l.limit)
    × (l.k ≤ vec_len l.words)

abbrev pub decreases-loop-k : goal.decreases-loop-k
decreases-loop-k l = l.limit - l.k
