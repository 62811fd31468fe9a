-- What is left of a tree is no deeper than the tree.
use Rattle.std.proofs.Common.{◌≤◌}
use Rattle.spectra_resolved.proofs.+resolved.Given as goal
use Rattle.spectra_resolved.proofs.tree.Resolved.TheLaws.{the_size}

abbrev pub invariant-tree::Resolved::drop-loop-self : goal.invariant-tree::Resolved::drop-loop-self
invariant-tree::Resolved::drop-loop-self l = the_size l.self ≤ the_size l.fn.self
