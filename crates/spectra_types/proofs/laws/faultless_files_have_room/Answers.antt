use Rattle.spectra_types.proofs.Theorem as lemmas
use Rattle.spectra_types.proofs.laws.faultless_files_have_room.Goals as goal

pub returns : goal.returns
returns c = lemmas.has_room
