use Rattle.std.proofs.Common.{◌≡◌, map, reverse}
use Rattle.spectra_trees.specs.Chains.{chained}
use Rattle.spectra_trees.specs.ChainViews.{link_data}
use Rattle.spectra_trees.specs.Views.{expr_data}
use Rattle.spectra_trees.proofs.chain.chain_of.Given as goal

-- with the operators so far behind it, what is left is all
abbrev pub invariant-loop-head : goal.invariant-loop-head
invariant-loop-head l = chained (expr_data l.head) (map link_data (reverse l.links.items)) ≡ expr_data l.tree
