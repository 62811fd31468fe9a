use Rattle.spectra_types.proofs.Theorem as lemmas
use Rattle.spectra_types.proofs.laws.faultless_files_are_well_typed.Goals as goal

pub returns : goal.returns
returns c = lemmas.well_typed
