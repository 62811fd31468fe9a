use Rattle.bit_compile.proofs.CompiledFormulas.{formula_compiled}
use Rattle.bit_compile.proofs.laws.compiled_is_the_formula.Goals as goal

pub returns : goal.returns
returns c = λ g e well made. formula_compiled g well e made
