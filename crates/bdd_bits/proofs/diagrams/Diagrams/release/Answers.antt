use Rattle.std.proofs.Common.{refl}
use Rattle.bdd_bits.proofs.diagrams.Diagrams.release.Goals as goal

pub returns-clause-nodes : goal.returns-clause-nodes
returns-clause-nodes c = rw (← c.self.view_is) (record { table = c.release.ensures.table; order = refl })
