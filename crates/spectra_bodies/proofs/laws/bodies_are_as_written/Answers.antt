use Rattle.spectra_bodies.proofs.AsWritten as lemmas
use Rattle.spectra_bodies.proofs.laws.bodies_are_as_written.Goals as goal

pub returns : goal.returns
returns c = lemmas.bodies_are_as_written
