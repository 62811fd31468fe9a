use Rattle.spectra_elaboration.specs.PuttingViews.{bodies_data}
use Rattle.spectra_elaboration.proofs.HandedOn.{one_more_last}
use Rattle.spectra_elaboration.proofs.handing.look_up.Goals as goal

pub returns-in-Some : goal.returns-in-Some
returns-in-Some c =
    one_more_last (bodies_data c.args.bodies.now) c.args.lasts.now.items c.note.new.lasts.items c.args.number c.in-Some.found c.requires c.in-Some.ensures c.note.ensures
