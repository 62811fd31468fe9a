use Rattle.std.proofs.Common.{◌≡◌, drop, map}
use Rattle.spec_model.specs.Views.{variable_data}
use Rattle.session_lines.specs.Reading.{names_one}
use Rattle.session_lines.proofs.word.names_some.Given as goal

-- what is left decides
abbrev pub invariant-loop-var : goal.invariant-loop-var
invariant-loop-var l = names_one (map variable_data (drop l.var-index l.vars)) l.word ≡ names_one (map variable_data l.vars) l.word
