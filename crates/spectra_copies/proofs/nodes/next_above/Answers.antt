use Rattle.std.proofs.Common.{◌+◌, sym, ap, ◌∙◌}
use Rattle.spectra_resolved.specs.Resolved.{tree}
use Rattle.spectra_copies.specs.Nodes.{form_nodes}
use Rattle.spectra_copies.proofs.Folded.{next_data}
use Rattle.spectra_copies.proofs.Made.{same}
use Rattle.spectra_copies.proofs.nodes.next_above.Goals as goal

pub node-requires : goal.node-requires
node-requires c = ap form_nodes (next_data c.args.operand.tree) ∙ ap (λ n. 1 + n) (sym c.args.operand.counted)

pub returns-clause-made : goal.returns-clause-made
returns-clause-made c = same c.args.room _ _ c.node.result (ap (tree c.args.first c.args.at) (next_data c.args.operand.tree)) c.node.ensures.made
