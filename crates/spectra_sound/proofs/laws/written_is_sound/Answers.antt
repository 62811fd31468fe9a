use Rattle.spectra_sound.proofs.WrittenSound as lemmas
use Rattle.spectra_sound.proofs.laws.written_is_sound.Goals as goal

pub returns : goal.returns
returns c = lemmas.written_sound
