use Rattle.spectra_talks.proofs.saying.say_usage.Goals as goal

pub returns : goal.returns
returns g c = λ left reads faults. c.say.ensures left reads faults
