use Rattle.std.proofs.Common.{◌≡◌, take}
use Rattle.gr1_env.specs.Solved.{greatest, hold_count}
use Rattle.gr1_env.proofs.numbers.most_of.Given as goal

-- the most of the holds so far
abbrev pub invariant-loop-e : goal.invariant-loop-e
invariant-loop-e g l = record { most : l.most ≡ greatest hold_count (take l.e-index l.goals) }
