use Rattle.spec_model.proofs.Diagrams.{differ_somewhere}
use Rattle.spec_model.proofs.diagram_laws.different_diagrams_differ.Goals as goal

pub returns : goal.returns
returns c = differ_somewhere
