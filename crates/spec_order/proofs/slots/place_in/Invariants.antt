use Rattle.std.proofs.Common.{◌≡◌, ◌<◌, ℕ, slice_index}
use Rattle.spec_order.proofs.slots.place_in.Given as goal

-- it isn't at the places so far
abbrev pub invariant-loop-k : goal.invariant-loop-k
invariant-loop-k l = (j : ℕ) → j < l.k → slice_index l.list j ≡ l.slot → ⊥
