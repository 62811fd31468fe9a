use Rattle.std.proofs.Common.{◌≡◌, ◌+◌, [], ◌∷◌, ◌++◌, map, drop, sym, ap, ◌∙◌, add-one, drop-cons}
use Rattle.spectra_resolved.specs.Reports.{found_in}
use Rattle.spectra_resolved.specs.TextViews.{definition_data}
use Rattle.spectra_resolved.proofs.Mapped.{map_push}
use Rattle.spectra_items.specs.Meanings.{define_of, define_faults}
use Rattle.spectra_items.specs.ItemViews.{define_data}
use Rattle.spectra_items.specs.Steps.{look_by}
use Rattle.spectra_items.proofs.Loops.{map_step, found_step}
use Rattle.spectra_items.proofs.definitions.add_defines.Goals as goal

pub loop-written-preserved : goal.loop-written-preserved
loop-written-preserved c =
    let r = c.args.resolver.now in
    let defines = c.args.defines.now in
    let i = c.loop-written.written-index in
    let written = c.written-item.result in
    let all = c.loop-written.all.items in
    let rest : drop i defines ≡ written ∷ drop (i + 1) defines = drop-cons defines i written c.loop-written-test.true ∙ (λ j. sym c.written-item.is j ∷ drop (sym (add-one i) j) defines) in
    let parts = ap (map define_data) rest in
    let more = ap (map definition_data) c.in_ok-push.ensures.items ∙ map_push definition_data all c.in_ok-define.field-0 ∙ ap (λ d. map definition_data all ++ d ∷ []) c.in_ok-define.ensures.define in
    record {
      same = map_step (define_of (look_by r) r.file) (define_data written) _ _ (map definition_data all) _ _ parts more c.loop-written.invariant.same;
      found = found_step (define_faults (look_by r) r.file) (define_data written) _ _ (found_in c.loop-written.findings) _ _ parts c.in_ok-define.ensures.found c.loop-written.invariant.found;
    }
