use Rattle.std.proofs.Common.{◌++◌, replicate, ap, ◌∙◌}
use Rattle.spectra_resolved.specs.Texts.{ResolvedVariable}
use Rattle.spectra_resolved.specs.TextViews.{variable_data}
use Rattle.spectra_notes.specs.TypeKinds.{is_of_system}
use Rattle.spectra_notes.proofs.Elements.{array_more, arrays_all}
use Rattle.spectra_notes.proofs.kinds.system.Goals as goal

pub loop-variable-preserved : goal.loop-variable-preserved
loop-variable-preserved c =
    let v = c.variable-item.result in
    array_more (λ (v : ResolvedVariable). replicate v.count (is_of_system v.owner)) variable_data c.args.variables.now c.loop-variable.variable-index v c.loop-variable-test.true c.variable-item.is (c.loop-variable.all.items) (c.add_marks.new.all.items) _
    (c.in_ok-add_marks.ensures ∙ ap (λ k. (c.loop-variable.all.items) ++ replicate v.count k) c.is_of_system.ensures) c.loop-variable.invariant

pub returns : goal.returns
returns c = arrays_all (λ (v : ResolvedVariable). replicate v.count (is_of_system v.owner)) variable_data c.args.variables.now c.loop-variable.variable-index c.loop-variable-test.false (c.loop-variable.all.items) _ c.loop-variable.invariant
