use Rattle.std.proofs.Common.{not}
use Rattle.spec_model.specs.Moves.{is_env}
use Rattle.session_lines.proofs.TypedNames.{typed_once}
use Rattle.session_lines.proofs.typed_laws.no_line_of_a_typed_specification_reads_as_two.Goals as goal

pub returns-clause-inputs : goal.returns-clause-inputs
returns-clause-inputs c = λ s line xs ys typed a b. typed_once s typed (λ v. is_env v.owner) line xs ys a b

pub returns-clause-outputs : goal.returns-clause-outputs
returns-clause-outputs c = λ s line xs ys typed a b. typed_once s typed (λ v. not (is_env v.owner)) line xs ys a b
