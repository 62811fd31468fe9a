use Rattle.std.proofs.Common.{◌≡◌, length, map}
use Rattle.spec_model.specs.Views.{variable_data}
use Rattle.session_lines.specs.Plain.{are_plain}
use Rattle.session_lines.proofs.plain.are_plain.Given as goal

-- what is left decides
abbrev pub invariant-loop-var : goal.invariant-loop-var
invariant-loop-var l = are_plain (map (λ v. v.name) (map variable_data l.vars)) ≡ are_plain (map (λ v. v.name) (map variable_data l.rest))

abbrev pub decreases-loop-var : goal.decreases-loop-var
decreases-loop-var l = length l.rest
