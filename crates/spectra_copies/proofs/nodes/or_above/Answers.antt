use Rattle.std.proofs.Common.{◌+◌, sym, ap, ◌∙◌}
use Rattle.spectra_resolved.specs.Resolved.{tree}
use Rattle.spectra_copies.specs.Nodes.{form_nodes}
use Rattle.spectra_copies.proofs.Folded.{or_data}
use Rattle.spectra_copies.proofs.Made.{same}
use Rattle.spectra_copies.proofs.nodes.or_above.Goals as goal

pub node-requires : goal.node-requires
node-requires c = ap form_nodes (or_data c.args.operands c.args.between) ∙ ap (λ n. 1 + n) (sym c.requires)

pub returns-clause-made : goal.returns-clause-made
returns-clause-made c = same c.args.room _ _ c.node.result (ap (tree c.args.first c.args.at) (or_data c.args.operands c.args.between)) c.node.ensures.made
