use Rattle.std.proofs.Common.{◌≡◌, ◌≤◌, None, Some, subst, slice_get, get_or, sym, ap, ◌∙◌}
use Rattle.std.proofs.lemmas.Option.{slice_get-get_or}
use Rattle.spectra_elaboration.specs.declared.frames.Frame.{Frame}
use Rattle.spectra_elaboration.specs.DefinitionViews.{definitions_data}
use Rattle.spectra_elaboration.proofs.GivenBack.{item_given}
use Rattle.spectra_elaboration.proofs.following.given_back.Goals as goal

pub returns-else-frames-frame : goal.returns-else-frames-frame
returns-else-frames-frame c =
    let d = c.args.by.now.definitions.now in
    let fs = c.args.frames.now in
    let f = c.index-frames-frame.result in
    let here : slice_get fs c.args.frame ≡ Some f = slice_get-get_or fs c.args.frame f c.requires ∙ ap Some (sym c.index-frames-frame.is) in
    item_given (definitions_data d) d.given.items d.right fs c.args.frame f c.in-Some.given c.args.number c.args.ts.now here
    (sym (c.in-Some.ensures ∙ ap (λ gs. get_or gs c.args.number None) c.deref.ensures.value)) (subst (λ (x : Frame). c.in-Some.given.deep ≤ x.deep) (sym c.index-frames-frame.is) c.if-frames-frame.false) c.get.result c.get.ensures.lookup
