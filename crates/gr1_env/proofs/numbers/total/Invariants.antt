use Rattle.std.proofs.Common.{◌≡◌, map, sum, take, vec_len}
use Rattle.gr1_env.proofs.numbers.total.Given as goal

-- the elements of the lists so far
abbrev pub invariant-loop-rs : goal.invariant-loop-rs
invariant-loop-rs g l = record { sum : l.n ≡ sum (map vec_len (take l.rs-index l.xs)) }
