use Rattle.std.proofs.Common.{refl}
use Rattle.bdd_bits.proofs.CallLemmas.{gives_bits}
use Rattle.bdd_bits.proofs.diagrams.Diagrams.constant.Goals as goal

pub returns-clause-given : goal.returns-clause-given
returns-clause-given c = rw (← c.self.view_is) (gives_bits _ _ _ _ _ _ refl refl c.constant.ensures.given)
