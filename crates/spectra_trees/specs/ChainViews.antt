-- The chains that the program's stand for.
use Rattle.std.specs.Prelude.{map}
use Rattle.spectra_trees.specs.declared.chain.Link.{Link}
use Rattle.spectra_trees.specs.declared.chain.Chain.{Chain}
use Rattle.spectra_trees.specs.Data.{Expression}
use Rattle.spectra_trees.specs.Chains.{LinkData, chained}
use Rattle.spectra_trees.specs.Views.{expr_data}

abbrev pub link_data : Link → LinkData
link_data l = record { first = l.first; at = l.at; word = l.word; second = expr_data l.second.now }

-- the expression that a chain is
abbrev pub chain_data : Chain → Expression
chain_data c = chained (expr_data c.head.now) (map link_data c.links.items)
