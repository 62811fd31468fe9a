use Rattle.std.proofs.Common.{map, ap, arith}
use Rattle.spectra_resolved.specs.Views.{resolved_data, link_data}
use Rattle.spectra_copies.specs.Nodes.{tree_nodes}
use Rattle.spectra_copies.proofs.Chained.{tree_nodes-chained}
use Rattle.spectra_copies.proofs.nodes.chain_of.Goals as goal

pub invariant_of-result : goal.invariant_of-result
invariant_of-result c =
    let head = c.args.head.counted in
    let links = c.requires.counted in
    let all = tree_nodes-chained (resolved_data c.args.head.tree.value) (map link_data c.args.links.items) in
    let is = ap tree_nodes c.in_ok-tree.ensures in
    record { counted = omega (arith, head, links, all, is) }
