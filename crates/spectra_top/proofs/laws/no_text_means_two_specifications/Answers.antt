use Rattle.spectra_top.proofs.Meant.{one_meaning}
use Rattle.spectra_top.proofs.laws.no_text_means_two_specifications.Goals as goal

pub returns : goal.returns
returns c = one_meaning
