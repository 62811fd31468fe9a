use Rattle.spectra_lines.proofs.Faultless as lemmas
use Rattle.spectra_lines.proofs.laws.faultless_are_meant.Goals as goal

pub returns : goal.returns
returns c = lemmas.faultless
