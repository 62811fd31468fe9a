use Rattle.std.proofs.Common.{rules}
use Rattle.bit_compile.proofs.LawLemmas.{state_listed}
use Rattle.bit_compile.proofs.laws.states_have_bits.Goals as goal

pub returns : goal.returns
returns c = λ g s e. state_listed g s (search rules)
