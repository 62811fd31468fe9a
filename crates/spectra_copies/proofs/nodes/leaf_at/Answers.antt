use Rattle.std.proofs.Common.{ap}
use Rattle.spectra_resolved.specs.Resolved.{tree}
use Rattle.spectra_copies.specs.Nodes.{form_nodes}
use Rattle.spectra_copies.proofs.Folded.{leaf_data}
use Rattle.spectra_copies.proofs.Made.{same}
use Rattle.spectra_copies.proofs.nodes.leaf_at.Goals as goal

pub node-requires : goal.node-requires
node-requires c = ap form_nodes (leaf_data c.args.leaf)

pub returns-clause-made : goal.returns-clause-made
returns-clause-made c = same c.args.room _ _ c.node.result (ap (tree c.args.first c.args.at) (leaf_data c.args.leaf)) c.node.ensures.made
