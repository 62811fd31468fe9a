use Rattle.std.proofs.Common.{◌≡◌, ◌++◌, map, filter, drop}
use Rattle.spec_model.specs.Moves.{is_of}
use Rattle.spec_model.specs.Views.{variable_data}
use Rattle.session_lines.proofs.make.push_vars_of.Given as goal

-- those so far are copied
abbrev pub invariant-loop-var : goal.invariant-loop-var
invariant-loop-var l =
    map variable_data l.copies.items ++ filter (λ v. is_of l.owner v.owner) (map variable_data (drop l.var-index l.vars)) ≡ map variable_data l.fn.copies.items ++ filter (λ v. is_of l.owner v.owner) (map variable_data l.vars)
