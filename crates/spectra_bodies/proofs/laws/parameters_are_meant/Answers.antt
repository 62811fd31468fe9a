use Rattle.spectra_bodies.proofs.ParametersMeant as lemmas
use Rattle.spectra_bodies.proofs.laws.parameters_are_meant.Goals as goal

pub returns : goal.returns
returns c = lemmas.parameters_are_meant
