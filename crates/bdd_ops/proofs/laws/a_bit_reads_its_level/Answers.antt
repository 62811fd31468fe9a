use Rattle.bdd_ops.proofs.ReadingLemmas.{bit_ignores}
use Rattle.bdd_ops.proofs.laws.a_bit_reads_its_level.Goals as goal

pub returns : goal.returns
returns c = bit_ignores
