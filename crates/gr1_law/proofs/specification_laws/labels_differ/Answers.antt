use Rattle.gr1_law.proofs.Labels.{labels_differ}
use Rattle.gr1_law.proofs.specification_laws.labels_differ.Goals as goal

pub returns : goal.returns
returns c = labels_differ
