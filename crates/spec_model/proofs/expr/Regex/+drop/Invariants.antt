-- What is left of a regular expression is no deeper than the expression.
use Rattle.std.proofs.Common.{◌≤◌}
use Rattle.spec_model.proofs.expr.Regex.+drop.Given as goal
use Rattle.spec_model.proofs.expr.Regex.TheLaws.{the_size}

abbrev pub invariant-loop-self : goal.invariant-loop-self
invariant-loop-self l = the_size l.self ≤ the_size l.fn.self
