use Rattle.std.proofs.Common.{◌≡◌, ◌+◌, ℕ}
use Rattle.bdd_store.specs.State.{roots_at}
use Rattle.region_bdd.specs.Slots.{roots_of_slots}
use Rattle.region_bdd.proofs.ending.release_slots.Given as goal

-- what is kept besides what is left was kept at first but for what was given
abbrev pub invariant-loop-slot : goal.invariant-loop-slot
invariant-loop-slot l = (n : ℕ) → roots_at l.diagrams.state n + roots_of_slots n l.fn.slots.slots.items ≡ roots_at l.fn.diagrams.state n + roots_of_slots n l.held.items

abbrev pub decreases-loop-slot : goal.decreases-loop-slot
decreases-loop-slot l = goal.left-loop-slot l
