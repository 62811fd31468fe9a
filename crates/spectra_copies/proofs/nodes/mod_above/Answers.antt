use Rattle.std.proofs.Common.{◌+◌, sym, ap, ◌∙◌, w64, to_z, of_z}
use Rattle.std.proofs.lemmas.Int.{to_z-of_z}
use Rattle.spectra_resolved.specs.Resolved.{tree, Form}
use Rattle.spectra_resolved.specs.Views.{resolved_data}
use Rattle.spectra_copies.specs.Nodes.{form_nodes}
use Rattle.spectra_copies.proofs.Folded.{mod_data}
use Rattle.spectra_copies.proofs.Made.{same}
use Rattle.spectra_copies.proofs.nodes.mod_above.Goals as goal

pub node-requires : goal.node-requires
node-requires c = ap form_nodes (mod_data c.args.operand.tree c.args.number_at (to_z w64 (of_z w64 c.args.number))) ∙ ap (λ n. 1 + n) (sym c.args.operand.counted)

pub returns-clause-made : goal.returns-clause-made
returns-clause-made c =
    same c.args.room _ _ c.node.result
    (ap (tree c.args.first c.args.at) (mod_data c.args.operand.tree c.args.number_at (to_z w64 (of_z w64 c.args.number)) ∙ ap (Form.Mod (resolved_data c.args.operand.tree.value) c.args.number_at) (to_z-of_z w64 c.args.number c.ranges.number)))
    c.node.ensures.made
