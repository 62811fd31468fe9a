use Rattle.std.proofs.Common.{◌+◌, sym, ap, ◌∙◌}
use Rattle.spectra_resolved.specs.Resolved.{tree}
use Rattle.spectra_copies.specs.Nodes.{form_nodes}
use Rattle.spectra_copies.proofs.Folded.{quantified_data}
use Rattle.spectra_copies.proofs.Made.{same}
use Rattle.spectra_copies.proofs.nodes.quantifier_above.Goals as goal

pub node-requires : goal.node-requires
node-requires c =
    let q = c.args.quantifier.now in let low = c.args.low in let high = c.args.high in let copies = c.args.copies in
    ap form_nodes (quantified_data q.word q.variable c.args.extent low.tree high.tree copies.all)
    ∙ (λ i. 1 + (sym low.counted i + (sym high.counted i + sym copies.counted i)))

pub returns-clause-made : goal.returns-clause-made
returns-clause-made c =
    let q = c.args.quantifier.now in
    same c.args.room _ _ c.node.result (ap (tree c.args.first c.args.at) (quantified_data q.word q.variable c.args.extent c.args.low.tree c.args.high.tree c.args.copies.all)) c.node.ensures.made
