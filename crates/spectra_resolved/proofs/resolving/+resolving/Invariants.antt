use Rattle.std.proofs.Common.{◌≡◌, ◌≤◌, ◌*◌, ◌+◌, ◌++◌, max, map, drop, reverse}
use denote.Param.Weighed.{most}
use Rattle.spectra_trees.specs.declared.tree.ExprTree.{size-ExprTree}
use Rattle.spectra_trees.specs.Data.{expressions}
use Rattle.spectra_trees.specs.Views.{expr_data}
use Rattle.spectra_resolved.specs.Findings.{with_faults}
use Rattle.spectra_resolved.specs.Reports.{found_in}
use Rattle.spectra_resolved.specs.Resolved.{listed}
use Rattle.spectra_resolved.specs.Chained.{chained}
use Rattle.spectra_resolved.specs.Views.{resolved_data, link_data}
use Rattle.spectra_resolved.specs.Resolving.{misuses, misuses_of_each}
use Rattle.spectra_resolved.specs.ResolverViews.{resolved_by, resolved_each_by}
use Rattle.spectra_resolved.proofs.resolving.+resolving.Given as goal

abbrev pub decreases-tree : goal.decreases-tree
decreases-tree l = 2 * size-ExprTree l.e.now + 1

abbrev pub decreases-link : goal.decreases-link
decreases-link l = 2 * size-ExprTree l.second.now + 1 + 1

abbrev pub decreases-node : goal.decreases-node
decreases-node l = 2 * size-ExprTree l.e.now

abbrev pub decreases-trees : goal.decreases-trees
decreases-trees l = 2 * most (λ e. size-ExprTree e) l.es.now + 1 + 1

abbrev pub decreases-all_of : goal.decreases-all_of
decreases-all_of l = 2 * most (λ e. size-ExprTree e) l.es.now + 1 + 1 + 1

abbrev pub decreases-any_of : goal.decreases-any_of
decreases-any_of l = 2 * most (λ e. size-ExprTree e) l.es.now + 1 + 1 + 1

abbrev pub decreases-index : goal.decreases-index
decreases-index l = 2 * size-ExprTree l.e.now + 1 + 1

abbrev pub decreases-quantified : goal.decreases-quantified
decreases-quantified l = 2 * max (size-ExprTree l.low.now) (max (size-ExprTree l.high.now) (size-ExprTree l.body.now)) + 1 + 1 + 1

abbrev pub decreases-inside : goal.decreases-inside
decreases-inside l = 2 * size-ExprTree l.body.now + 1 + 1

-- with the operators so far behind it, what is left is all; what was found in their operands comes behind what is found in it
abbrev pub invariant-tree-chain : goal.invariant-tree-chain
invariant-tree-chain l = record {
  same : chained (resolved_by l.resolver (expr_data l.head)) (map link_data (reverse l.links.items)) ≡ resolved_by l.resolver (expr_data l.e);
  found : with_faults (found_in l.findings) (misuses (resolved_by l.resolver (expr_data l.head))) ≡ with_faults (found_in l.fn.findings) (misuses (resolved_by l.resolver (expr_data l.e)));
  no_larger : size-ExprTree l.head ≤ size-ExprTree l.e;
}

abbrev pub decreases-tree-chain : goal.decreases-tree-chain
decreases-tree-chain l = size-ExprTree l.head

-- those so far and those of what is left are all
abbrev pub invariant-trees-loop-e : goal.invariant-trees-loop-e
invariant-trees-loop-e l = record {
  same : map resolved_data l.made.items ++ listed (resolved_each_by l.resolver (expressions (map expr_data (drop l.e-index l.es)))) ≡ listed (resolved_each_by l.resolver (expressions (map expr_data l.es)));
  found : with_faults (found_in l.findings) (misuses_of_each (resolved_each_by l.resolver (expressions (map expr_data (drop l.e-index l.es))))) ≡ with_faults (found_in l.fn.findings) (misuses_of_each (resolved_each_by l.resolver (expressions (map expr_data l.es))));
}
