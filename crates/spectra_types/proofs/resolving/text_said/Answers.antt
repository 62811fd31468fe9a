use Rattle.std.proofs.Common.{rules}
use Rattle.spectra_types.proofs.Firsts.{found_both}
use Rattle.spectra_types.proofs.resolving.text_said.Goals as goal

pub returns-clause-found : goal.returns-clause-found
returns-clause-found c = search (rules, found_both)
