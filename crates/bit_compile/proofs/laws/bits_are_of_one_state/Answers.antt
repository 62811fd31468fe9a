use Rattle.bit_compile.proofs.LawLemmas.{one_state}
use Rattle.bit_compile.proofs.laws.bits_are_of_one_state.Goals as goal

pub returns : goal.returns
returns c = one_state
