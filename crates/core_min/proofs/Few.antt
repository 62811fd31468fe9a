-- A set has no more numbers than there are.
use Rattle.std.proofs.Common.{ℕ, zero, suc, ◌+◌, ◌<◌, ◌≤◌, List, [], ◌∷◌, length, get_or, arith}
use Rattle.std.proofs.Math.Numerals.{add-one}
use Rattle.core_min.specs.Sets.{IsSetBelow}
use Rattle.std.specs.List.Sorted.{IsStrictlyIncreasing}

-- each number is at least its place
at_least : (set : List ℕ) (k : ℕ) → IsStrictlyIncreasing set → k < length set → k ≤ get_or set k 0
at_least set zero rises inside = omega arith
at_least set (suc k) rises inside =
    let place : k + 1 < length set = omega (arith, inside) in
    let before = at_least set k rises (omega (arith, inside)) in
    let next : get_or set k 0 < get_or set (suc k) 0 = rw (← add-one k) (rises k place) in
    omega (arith, before, next)

pub few : (size : ℕ) (set : List ℕ) → IsSetBelow size set → length set ≤ size
few size [] numbers = omega arith
few size (n ∷ ns) numbers =
    let last = at_least (n ∷ ns) (length ns) numbers.rises (omega arith) in
    let below = numbers.below (length ns) 0 (omega arith) in
    omega (arith, last, below)
