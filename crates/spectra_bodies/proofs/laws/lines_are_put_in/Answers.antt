use Rattle.spectra_bodies.proofs.AsWritten as lemmas
use Rattle.spectra_bodies.proofs.laws.lines_are_put_in.Goals as goal

pub returns : goal.returns
returns c = lemmas.lines_are_put_in
