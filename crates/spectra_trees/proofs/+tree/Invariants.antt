-- What is left of a form is no deeper than the form.
use Rattle.std.proofs.Common.{◌≤◌}
use Rattle.spectra_trees.proofs.+tree.Given as goal
use Rattle.spectra_trees.proofs.tree.ExprForm.TheLaws.{the_size}

abbrev pub invariant-tree::ExprForm::drop-loop-self : goal.invariant-tree::ExprForm::drop-loop-self
invariant-tree::ExprForm::drop-loop-self l = the_size l.self ≤ the_size l.fn.self
