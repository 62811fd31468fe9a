use Rattle.std.proofs.Common.{◌≡◌, ◌<◌, ℕ, length}
use Rattle.bdd_bits.specs.Orders.{at}
use Rattle.bdd_bits.proofs.order.leads_back.Given as goal

abbrev pub invariant-loop-k : goal.invariant-loop-k
invariant-loop-k l = (j : ℕ) → j < l.k → (at l.to j < length l.to) × (at l.back (at l.to j) ≡ j)
