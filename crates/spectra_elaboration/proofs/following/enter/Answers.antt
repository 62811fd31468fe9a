use Rattle.std.proofs.Common.{◌≡◌, Some, length, map, IfOk, slice_get, refl, sym, ap, subst, ◌∙◌}
use Rattle.std.proofs.lemmas.Option.{slice_get_read}
use Rattle.std.proofs.lemmas.List.{length-map}
use Rattle.spectra_resolved.specs.Views.{resolved_data}
use Rattle.spectra_elaboration.specs.Putting.{put_deep}
use Rattle.spectra_elaboration.specs.DefinitionViews.{definitions_data}
use Rattle.spectra_elaboration.specs.Frames.{filled_at, used_at}
use Rattle.spectra_elaboration.specs.Following.{step_data, Goes, put_use}
use Rattle.spectra_elaboration.proofs.Framed.{deep_is}
use Rattle.spectra_elaboration.proofs.following.enter.Goals as goal

pub returns-clause-goes : goal.returns-clause-goes
returns-clause-goes c =
    let b = definitions_data c.args.by.now.definitions.now in
    let fs = c.args.frames.now.items in
    let new = c.enter_last.new.frames.items in
    let i = c.args.frame in
    let f = c.index.result.now in
    let ts = map resolved_data c.args.arguments.now in
    let there : slice_get fs i ≡ Some f = slice_get_read fs (length fs) i f refl c.requires.within c.index.ensures in
    let size : length (map (filled_at b fs i) ts) ≡ length c.args.arguments.now = length-map ts (filled_at b fs i) ∙ length-map c.args.arguments.now resolved_data in
    let is : put_use b c.last_use-last.result c.args.at (map (filled_at b fs i) ts) ≡ used_at b fs i c.args.hole c.args.number c.args.at ts =
    sym (ap (λ d. put_deep d b c.args.hole c.args.number c.args.at (map (filled_at b fs i) ts)) (deep_is b fs i f there) ∙ c.last_use-last.ensures c.args.at (map (filled_at b fs i) ts) size) in
    subst (λ x. IfOk c.enter_last.result (λ step. Goes fs new x (step_data b new step))) is c.enter_last.ensures.goes
