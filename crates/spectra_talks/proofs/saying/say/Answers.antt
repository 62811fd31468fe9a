use Rattle.std.proofs.Common.{refl}
use Rattle.spectra_talks.specs.Streams.{whole, cut}
use Rattle.spectra_talks.proofs.saying.say.Goals as goal

pub returns-in-Ok : goal.returns-in-Ok
returns-in-Ok g c = λ left reads faults. whole (record { left = refl; reads = refl; faults = refl }) c.in-Ok.ensures.whole

pub returns-in-Err : goal.returns-in-Err
returns-in-Err g c = λ left reads faults. cut (record { left = refl; reads = refl; faults = refl }) c.in-Err.ensures.part c.in-Err.ensures.cause.failed
