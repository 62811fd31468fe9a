-- Sums of counts.
use Rattle.std.proofs.Common.{◌≡◌, ℕ, zero, suc, List, ◌++◌, replicate, refl, arith}
use Rattle.std.specs.Prelude.{sum}
use Rattle.std.proofs.lemmas.List.Sums.{sum_by-append, sum_by-cons}

sum-zeros : (n : ℕ) → sum (replicate n 0) ≡ 0
sum-zeros zero = refl
sum-zeros (suc n) = omega (arith, sum_by-cons (λ x. x) 0 (replicate n 0), sum-zeros n)

-- counts of 0 add nothing
pub sum-append-zeros : (xs : List ℕ) (n : ℕ) → sum (xs ++ replicate n 0) ≡ sum xs
sum-append-zeros xs n = omega (arith, sum_by-append (λ x. x) xs (replicate n 0), sum-zeros n)
