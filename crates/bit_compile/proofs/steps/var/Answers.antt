use Rattle.bit_compile.proofs.MakingLemmas.{told_once}
use Rattle.bit_compile.proofs.steps.var.Goals as goal

pub returns : goal.returns
returns c = rw c.told.ensures (told_once _ _ _ _ _ c.var.ensures)
