-- What a compiled formula is, and what a refusal to compile it leaves to say.
use Rattle.std.proofs.Common.{◌≡◌, ℕ, true, Result, Ok, Err, IfOk, sym, subst}
use Rattle.spec_model.specs.Syntax.{Formula}
use Rattle.spec_model.specs.Games.{GameData}
use Rattle.spec_model.specs.Diagrams.{Function}
use Rattle.spec_model.specs.WellMade.{WellMade, scope_of, is_step_formula}
use Rattle.bdd_bits.specs.Contents.{Contents, function_at}
use Rattle.regions.specs.declared.types.Halt.{Halt}
use Rattle.bit_compile.specs.Making.{Makes}
use Rattle.bit_compile.specs.Compiled.{compiled}
use Rattle.bit_compile.specs.CompileLaws.{IsFormulaOf}
use Rattle.bit_compile.proofs.FormulaMeanings.{compiled_means}
use Rattle.bit_compile.proofs.ReadLevels.{compiled_reads}

pub formula_compiled : (g : GameData) → WellMade g → (e : Formula) → is_step_formula (scope_of g) e ≡ true → IsFormulaOf g e (compiled g e)
formula_compiled g well e made = record { meaning = compiled_means g well e made; reads = compiled_reads g well e made }

-- what holds of a function holds of a root's that was made of it
pub root_is : (P : Function → Type 0) (old new : Contents) (r : Result ℕ Halt) (f : Function) → P f → Makes old new r f → IfOk r (λ n. P (function_at new n))
root_is P old new (Ok n) f is makes = subst P (sym makes.meaning) is
root_is P old new (Err h) f is makes = tt
