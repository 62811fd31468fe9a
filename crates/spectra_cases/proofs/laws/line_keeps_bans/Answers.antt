use Rattle.spectra_cases.proofs.Bans as lemmas
use Rattle.spectra_cases.proofs.laws.line_keeps_bans.Goals as goal

pub returns : goal.returns
returns c = lemmas.line_keeps_bans
