use Rattle.std.proofs.Common.{Some, ap, ◌∙◌}
use Rattle.spectra_resolved.specs.Views.{resolved_data}
use Rattle.spectra_copies.specs.Levels.{within_limits}
use Rattle.spectra_elaboration.specs.DefinitionViews.{definitions_data}
use Rattle.spectra_elaboration.specs.Frames.{filled_at}
use Rattle.spectra_elaboration.proofs.Flats.{made_within, large_without, deep_without}
use Rattle.spectra_elaboration.proofs.putting.fill_line.Goals as goal

pub returns-in-Ok : goal.returns-in-Ok
returns-in-Ok c =
    let t = resolved_data c.args.t.now in
    let all = filled_at (definitions_data c.args.definitions.now) c.in_ok-frames.frames.items 0 t in
    ap (λ x. Some (resolved_data x)) c.into_inner.ensures
    ∙ made_within c.args.room c.args.levels all c.in-Ok.made c.in-Ok.ensures.made c.in-Ok.ensures.flat
    ∙ ap (within_limits c.args.room c.args.levels) (c.in_ok-frames.ensures.line t)

pub returns-in-Err-Large : goal.returns-in-Err-Large
returns-in-Err-Large c =
    let t = resolved_data c.args.t.now in
    let all = filled_at (definitions_data c.args.definitions.now) c.in_ok-frames.frames.items 0 t in
    large_without c.args.room c.args.levels all c.in-Err-Large.field-0 c.in-Err-Large.ensures.made c.in-Err-Large.field-0-is ∙ ap (within_limits c.args.room c.args.levels) (c.in_ok-frames.ensures.line t)

pub returns-in-Err-Deep : goal.returns-in-Err-Deep
returns-in-Err-Deep c =
    let t = resolved_data c.args.t.now in
    let all = filled_at (definitions_data c.args.definitions.now) c.in_ok-frames.frames.items 0 t in
    deep_without c.args.room c.args.levels all c.in-Err-Deep.field-0 c.in-Err-Deep.ensures.flat c.in-Err-Deep.field-0-is ∙ ap (within_limits c.args.room c.args.levels) (c.in_ok-frames.ensures.line t)
