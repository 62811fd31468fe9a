use Rattle.spectra_sound.proofs.Whole as lemmas
use Rattle.spectra_sound.proofs.laws.faultless_is_sound.Goals as goal

pub returns : goal.returns
returns c = lemmas.faultless_sound
