use Rattle.std.proofs.Common.{◌≡◌, map, IfOk, sym, ap, subst, ◌∙◌}
use Rattle.spectra_resolved.specs.declared.tree.Hole.TheVariants as Hole
use Rattle.spectra_resolved.specs.Views.{resolved_data, form_data}
use Rattle.spectra_elaboration.specs.DefinitionViews.{definitions_data}
use Rattle.spectra_elaboration.specs.Frames.{around_at, put_around, form_at, used_at}
use Rattle.spectra_elaboration.specs.Following.{step_data, Goes}
use Rattle.spectra_copies.proofs.Folded.{predicate_data}
use Rattle.spectra_elaboration.proofs.Framed.{listed_each}
use Rattle.spectra_elaboration.proofs.following.node_step.Goals as goal

pub returns-in-Predicate-clause-goes : goal.returns-in-Predicate-clause-goes
returns-in-Predicate-clause-goes c =
    let b = definitions_data c.args.by.now.definitions.now in
    let fs = c.args.frames.now.items in
    let new = c.use_step.new.frames.items in
    let i = c.args.frame in
    let w = around_at b fs i in
    let arm = c.in-Predicate in
    let is : used_at b fs i Hole.Truth arm.number c.args.at.spot (map resolved_data c.deref.result.now) ≡ form_at b fs i c.args.first c.args.at (form_data c.args.shape.now) =
    ap (λ ts. used_at b fs i Hole.Truth arm.number c.args.at.spot (map resolved_data ts)) c.deref.ensures.value
    ∙ ap (put_around b w Hole.Truth arm.number c.args.at.spot) (sym (listed_each (put_around b w) w.brought w.arguments (map resolved_data arm.ts.items)))
    ∙ ap (form_at b fs i c.args.first c.args.at) (sym (ap form_data arm.is ∙ predicate_data arm.number arm.ts)) in
    subst (λ x. IfOk c.use_step.result (λ step. Goes fs new x (step_data b new step))) is c.use_step.ensures.goes
