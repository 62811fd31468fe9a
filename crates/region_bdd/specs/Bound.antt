-- The bound that an object shows.
use Rattle.std.specs.Prelude.{ℕ, suc, Bool, true, ◌==◌, ◌&&◌, if◌then◌else◌, List, [], ◌∷◌}
use Rattle.bdd_bits.specs.Contents.{Contents}

-- they are the numbers from n on, in order
abbrev pub counts_from : ℕ → List ℕ → Bool
counts_from n [] = true
counts_from n (k ∷ ks) = (k == n) && counts_from (suc n) ks

-- the budget, where each bit stands at the level of its number; under another order 0, for nothing is told of what fills it
abbrev pub bound_of : Contents → ℕ
bound_of c = if counts_from 0 c.order.names then c.state.table.budget else 0
