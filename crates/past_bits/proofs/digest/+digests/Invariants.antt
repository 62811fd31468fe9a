use Rattle.std.proofs.Common.{◌≡◌, drop}
use Rattle.game_values.specs.Safety.{formulas_in}
use Rattle.past_bits.specs.Digests.{digest_from_each}
use Rattle.past_bits.proofs.digest.+digests.Given as goal

-- what is left leads to the answer
abbrev pub invariant-digest_of_each-loop-e : goal.invariant-digest_of_each-loop-e
invariant-digest_of_each-loop-e l = digest_from_each l.digest (formulas_in (drop l.e-index l.es)) ≡ digest_from_each l.sum (formulas_in l.es)
