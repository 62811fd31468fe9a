use Rattle.std.proofs.Common.{◌≡◌, ap, ◌∙◌, length, arith}
use Rattle.std.proofs.lemmas.List.FromFn.{length-range_with_len}
use Rattle.bdd_bits.proofs.OrderLemmas.{declared_order, declared_bits}
use Rattle.bdd_bits.proofs.order.Order.declared.Goals as goal

pub invariant_of-result : goal.invariant_of-result
invariant_of-result c = rw (c.in_ok-below.ensures, c.in_ok-below-2.ensures) (declared_order c.args.levels, omega (arith, length-range_with_len 0 c.args.levels))

pub returns-clause-levels : goal.returns-clause-levels
returns-clause-levels c = rw c.in_ok-below-2.ensures (length-range_with_len 0 c.args.levels)

pub returns-clause-declared : goal.returns-clause-declared
returns-clause-declared c = λ level. rw c.in_ok-below-2.ensures (declared_bits c.args.levels level)

pub returns-clause-places : goal.returns-clause-places
returns-clause-places c = λ bit. rw c.in_ok-below.ensures (declared_bits c.args.levels bit)
