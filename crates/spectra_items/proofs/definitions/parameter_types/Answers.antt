use Rattle.std.proofs.Common.{◌≡◌, ◌+◌, [], ◌∷◌, ◌++◌, map, drop, sym, ap, ◌∙◌, add-one, drop-cons}
use Rattle.spectra_trees.specs.Data.{TypeData, NameData}
use Rattle.spectra_trees.specs.Views.{name_data, type_data as tree_type}
use Rattle.spectra_resolved.specs.Reports.{found_in}
use Rattle.spectra_resolved.specs.TextViews.{type_data}
use Rattle.spectra_resolved.proofs.Mapped.{map_push}
use Rattle.spectra_items.specs.Types.{type_of, type_faults}
use Rattle.spectra_items.specs.ItemViews.{parameters_data}
use Rattle.spectra_items.specs.Steps.{names_by, look_by}
use Rattle.spectra_items.proofs.Loops.{map_step, found_step}
use Rattle.spectra_items.proofs.definitions.parameter_types.Goals as goal

pub loop-param-preserved : goal.loop-param-preserved
loop-param-preserved c =
    let r = c.args.resolver.now in
    let params = c.args.params.now in
    let i = c.loop-param.param-index in
    let param = c.param-item.result in
    let all = c.loop-param.all.items in
    let rest : drop i params ≡ param ∷ drop (i + 1) params = drop-cons params i param c.loop-param-test.true ∙ (λ j. sym c.param-item.is j ∷ drop (sym (add-one i) j) params) in
    let parts = ap parameters_data rest in
    let more = ap (map type_data) c.in_ok-push.ensures.items ∙ map_push type_data all c.in_ok-type_use.field-0 ∙ ap (λ t. map type_data all ++ t ∷ []) c.in_ok-type_use.ensures.domain in
    record {
      same = map_step (λ (a : TypeData × NameData). type_of (names_by r) (look_by r) r.file a.0) (tree_type param.0, name_data param.1) _ _ (map type_data all) _ _ parts more c.loop-param.invariant.same;
      found = found_step (λ (a : TypeData × NameData). type_faults (names_by r) (look_by r) r.file a.0) (tree_type param.0, name_data param.1) _ _ (found_in c.loop-param.findings) _ _ parts c.in_ok-type_use.ensures.found c.loop-param.invariant.found;
    }
