use Rattle.std.proofs.Common.{◌≡◌, true, None, get_or, sym, ap, subst, ◌∙◌}
use Rattle.spectra_elaboration.specs.Putting.{body_of}
use Rattle.spectra_elaboration.specs.PuttingViews.{bodies_data}
use Rattle.spectra_elaboration.specs.Giving.{is_given}
use Rattle.spectra_elaboration.proofs.GivenBack.{one_more_given}
use Rattle.spectra_elaboration.proofs.definitions.look_up.Goals as goal

pub returns-in-Some : goal.returns-in-Some
returns-in-Some c =
    let b = bodies_data c.args.bodies.now in
    let k = c.args.number in
    let found = c.in-Some.found in
    one_more_given b c.args.given.now.items c.note.new.given.items k found c.requires
    (sym (ap (λ gs. get_or gs k None) c.deref.ensures.value) ∙ c.in-Some.ensures.empty)
    (subst (λ gs. is_given gs (body_of b k) found ≡ true) c.deref.ensures.value c.in-Some.ensures.right)
    c.note.ensures
