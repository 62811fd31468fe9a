use Rattle.std.proofs.Common.{◌≡◌, ◌||◌, ℕ, drop}
use Rattle.bdd_ops.specs.Functions.{is_among}
use Rattle.bdd_products.proofs.spreading.split_by.Given as goal

-- those so far and those that are left are all
abbrev pub invariant-loop-level : goal.invariant-loop-level
invariant-loop-level l =
    (m : ℕ) → ((is_among m l.flagged.items || is_among m l.rest.items) || is_among m (drop l.level-index l.levels)) ≡ is_among m l.levels
