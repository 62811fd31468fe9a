use Rattle.std.proofs.Common.{◌++◌, map, replicate, ap, ◌∙◌}
use Rattle.spectra_resolved.specs.Texts.{ResolvedVariable}
use Rattle.spectra_resolved.specs.TextViews.{variable_data, alias_data}
use Rattle.spectra_judge.specs.KindViews.{kind_data}
use Rattle.spectra_bounds.specs.Types.{type_kind}
use Rattle.spectra_bounds.specs.TypeViews.{constants_data}
use Rattle.spectra_notes.proofs.Elements.{array_more, arrays_all}
use Rattle.spectra_notes.proofs.kinds.variable_kinds.Goals as goal

pub loop-variable-preserved : goal.loop-variable-preserved
loop-variable-preserved c =
    let v = c.variable-item.result in
    array_more (λ (v : ResolvedVariable). replicate v.count (type_kind (constants_data c.args.constants.now) (map alias_data c.args.types.now) v.domain)) variable_data c.args.variables.now c.loop-variable.variable-index v c.loop-variable-test.true c.variable-item.is (map kind_data c.loop-variable.kinds.items) (map kind_data c.add_kinds.new.all.items) _
    (c.in_ok-add_kinds.ensures ∙ ap (λ k. (map kind_data c.loop-variable.kinds.items) ++ replicate v.count k) c.type_kind-kind.ensures) c.loop-variable.invariant

pub returns : goal.returns
returns c = arrays_all (λ (v : ResolvedVariable). replicate v.count (type_kind (constants_data c.args.constants.now) (map alias_data c.args.types.now) v.domain)) variable_data c.args.variables.now c.loop-variable.variable-index c.loop-variable-test.false (map kind_data c.loop-variable.kinds.items) _ c.loop-variable.invariant
