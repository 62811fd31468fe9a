use Rattle.std.proofs.Common.{not}
use Rattle.spec_model.specs.Moves.{is_env}
use Rattle.session_lines.proofs.TypedNames.{typed_shown}
use Rattle.session_lines.proofs.typed_laws.what_typed_specifications_show_is_read.Goals as goal

pub returns-clause-inputs : goal.returns-clause-inputs
returns-clause-inputs c = λ s xs typed is. typed_shown s typed (λ v. is_env v.owner) xs is

pub returns-clause-outputs : goal.returns-clause-outputs
returns-clause-outputs c = λ s xs typed is. typed_shown s typed (λ v. not (is_env v.owner)) xs is
