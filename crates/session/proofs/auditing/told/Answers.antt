use Rattle.std.proofs.Common.{inr, refl, sym, ◌∙◌}
use Rattle.session.proofs.Logging.{found_in}
use Rattle.session.proofs.auditing.told.Goals as goal

pub returns-in-Some : goal.returns-in-Some
returns-in-Some c = λ s log of. inr (c.in-Some.finding, sym (c.in-Some.ensures.first of.0 log of.2 ∙ found_in s of.0 of.1 log), refl)
