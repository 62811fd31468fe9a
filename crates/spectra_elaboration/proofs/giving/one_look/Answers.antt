use Rattle.std.proofs.Common.{◌≡◌, map, sym, ap, subst, ◌∙◌}
use Rattle.spectra_resolved.specs.Chained.{chained}
use Rattle.spectra_resolved.specs.Views.{resolved_data, link_data}
use Rattle.spectra_resolved.proofs.Trees.{chain_data}
use Rattle.spectra_elaboration.specs.Giving.{gives}
use Rattle.spectra_elaboration.specs.Looking.{Looks}
use Rattle.spectra_copies.proofs.Folded.{node_data}
use Rattle.spectra_elaboration.proofs.giving.one_look.Goals as goal

pub returns-in-Chain : goal.returns-in-Chain
returns-in-Chain c =
    let gs = c.args.given.now in
    let arm = c.in-Chain in
    let is : chained (resolved_data c.deref.result.now) (map link_data c.deref-in-Chain.result.now) ≡ resolved_data c.args.t.now =
    (λ i. chained (resolved_data (c.deref.ensures i)) (map link_data (c.deref-in-Chain.ensures.value i))) ∙ sym (ap resolved_data arm.is ∙ chain_data arm.head arm.links) in
    subst (λ x. Looks gs c.args.need (λ deep place. gives gs deep place x) c.look_in_row.result) is c.look_in_row.ensures

pub returns-in-Node : goal.returns-in-Node
returns-in-Node c =
    let gs = c.args.given.now in
    let n = c.in-Node in
    subst (λ x. Looks gs c.args.need (λ deep place. gives gs deep place x) c.look_at_node.result) (sym (ap resolved_data n.is ∙ node_data n.field-0 n.field-1 n.shape)) c.look_at_node.ensures
