use Rattle.spectra_trees.proofs.Shown.{each_shown}
use Rattle.spectra_trees.proofs.laws.each_fault_is_shown.Goals as goal

pub returns : goal.returns
returns c = each_shown
