use Rattle.std.proofs.Common.{sym, ap, ◌∙◌}
use Rattle.std.proofs.lemmas.Option.{IfSome_then}
use Rattle.spectra_elaboration.specs.PuttingViews.{bodies_data}
use Rattle.spectra_elaboration.specs.Handing.{next_of}
use Rattle.spectra_elaboration.proofs.HandedOn.{next_is_last}
use Rattle.spectra_elaboration.proofs.handing.next_at.Goals as goal

pub returns-in-Some : goal.returns-in-Some
returns-in-Some c =
    IfSome_then c.next_of.result c.next_of.ensures
    (λ next is. next_is_last (bodies_data c.args.bodies.now) c.args.number next (ap next_of (sym c.in-Some.ensures) ∙ is))
