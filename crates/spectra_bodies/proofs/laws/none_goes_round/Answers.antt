use Rattle.spectra_bodies.proofs.Meaning.{none_goes_round}
use Rattle.spectra_bodies.proofs.laws.none_goes_round.Goals as goal

pub returns : goal.returns
returns c = none_goes_round
