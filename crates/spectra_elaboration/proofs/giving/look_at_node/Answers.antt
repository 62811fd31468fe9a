use Rattle.std.proofs.Common.{◌≡◌, map, sym, ap, subst, ◌∙◌}
use Rattle.spectra_resolved.specs.Resolved.{Form}
use Rattle.spectra_resolved.specs.Chained.{trees}
use Rattle.spectra_resolved.specs.Views.{resolved_data, form_data}
use Rattle.spectra_elaboration.specs.Giving.{form_gives}
use Rattle.spectra_elaboration.specs.Looking.{Looks}
use Rattle.spectra_copies.proofs.Folded.{leaf_data, predicate_data}
use Rattle.spectra_elaboration.proofs.giving.look_at_node.Goals as goal

pub returns-in-Leaf : goal.returns-in-Leaf
returns-in-Leaf c =
    let gs = c.args.given.now in
    let arm = c.in-Leaf in
    subst (λ f. Looks gs c.args.need (λ deep place. form_gives gs deep place f) c.look_at_leaf.result) (sym (ap form_data arm.is ∙ leaf_data arm.leaf)) (c.look_at_leaf.ensures gs c.args.need)

pub returns-in-Predicate : goal.returns-in-Predicate
returns-in-Predicate c =
    let gs = c.args.given.now in
    let arm = c.in-Predicate in
    let is : Form.PredicateOf arm.number (trees (map resolved_data c.deref.result.now)) ≡ form_data c.args.shape.now =
    ap (λ ts. Form.PredicateOf arm.number (trees (map resolved_data ts))) c.deref.ensures.value ∙ sym (ap form_data arm.is ∙ predicate_data arm.number arm.ts) in
    subst (λ f. Looks gs c.args.need (λ deep place. form_gives gs deep place f) c.look_at_use.result) is c.look_at_use.ensures
