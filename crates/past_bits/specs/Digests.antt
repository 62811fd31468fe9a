-- A digest of a formula: a number of 64 bits, most often another one for another formula.
use Rattle.std.specs.Prelude.{ℕ, ◌+◌, ◌*◌, ◌%◌, ◌^◌, if◌then◌else◌, bit_xor}
use Rattle.std.specs.Int.{w64, rotate_left, cast_unsigned}
use Rattle.spec_model.specs.declared.value.Value.{Value}
use Rattle.spec_model.specs.declared.value.Value.TheVariants as value
use Rattle.spec_model.specs.Syntax.{Formula, Constant, Variable, NextOf, Negation, Conjunction, Disjunction, Implication, Equivalence, Comparison, Sum, Difference, Product, Remainder, PastOf, Entry, Formulas}
use Rattle.spec_model.specs.Sizes.{past_number}

-- a number more
unfoldable pub mixed : ℕ → ℕ → ℕ
mixed sum part = rotate_left w64 ((bit_xor sum part * 1099511628211) % 2 ^ 64) 23

unfoldable pub value_digest : Value → ℕ
value_digest (value.Bool b) = if b then 1 else 0
value_digest (value.Int z) = (cast_unsigned w64 z + 7) % 2 ^ 64
value_digest (value.Name n) = (n + 11) % 2 ^ 64

abbrev mutual
  -- a formula more
  pub digest_from : ℕ → Formula → ℕ
  digest_from sum (Constant v) = mixed (mixed sum 1) (value_digest v)
  digest_from sum (Variable k) = mixed (mixed sum 2) k
  digest_from sum (NextOf e) = digest_from (mixed sum 3) e
  digest_from sum (Negation e) = digest_from (mixed sum 4) e
  digest_from sum (Conjunction es) = digest_from_each (mixed sum 5) es
  digest_from sum (Disjunction es) = digest_from_each (mixed sum 6) es
  digest_from sum (Implication a b) = digest_from (digest_from (mixed sum 7) a) b
  digest_from sum (Equivalence a b) = digest_from (digest_from (mixed sum 8) a) b
  digest_from sum (Comparison c a b) = digest_from (digest_from (mixed sum 9) a) b
  digest_from sum (Sum a b) = digest_from (digest_from (mixed sum 10) a) b
  digest_from sum (Difference a b) = digest_from (digest_from (mixed sum 11) a) b
  digest_from sum (Product a b) = digest_from (digest_from (mixed sum 12) a) b
  digest_from sum (Remainder a n) = digest_from (mixed (mixed sum 13) (cast_unsigned w64 n)) a
  digest_from sum (PastOf op es) = digest_from_each (mixed (mixed sum 14) (past_number op)) es
  digest_from sum (Entry h n) = mixed (mixed (mixed sum 15) h) n

  pub digest_from_each : ℕ → Formulas → ℕ
  digest_from_each sum Formulas.none = mixed sum 16
  digest_from_each sum (Formulas.one_more e es) = digest_from_each (digest_from sum e) es

unfoldable pub digest_of : Formula → ℕ
digest_of e = digest_from 0 e
