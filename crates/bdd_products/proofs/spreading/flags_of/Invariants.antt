use Rattle.std.proofs.Common.{◌≡◌, ◌||◌, ℕ, false, drop, slice_index_or}
use Rattle.bdd_ops.specs.Functions.{is_among}
use Rattle.bdd_products.proofs.spreading.flags_of.Given as goal

-- those that are flagged and those that are left are all
abbrev pub invariant-loop-level : goal.invariant-loop-level
invariant-loop-level l =
    (m : ℕ) → (slice_index_or l.flags.items m false || is_among m (drop l.level-index l.levels)) ≡ is_among m l.levels
