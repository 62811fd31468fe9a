use Rattle.std.proofs.Common.{inl}
use Rattle.spectra_talks.proofs.saying.say_size_limit.Goals as goal

pub returns : goal.returns
returns g c = λ left reads faults. inl (c.say.ensures left reads faults)
