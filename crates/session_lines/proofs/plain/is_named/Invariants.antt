use Rattle.std.proofs.Common.{◌≡◌, drop, map, string_bytes}
use Rattle.std.specs.List.{list_any}
use Rattle.std.specs.Str.{bytes_eq}
use Rattle.spec_model.specs.Views.{variable_data}
use Rattle.session_lines.proofs.plain.is_named.Given as goal

-- what is left decides
abbrev pub invariant-loop-var : goal.invariant-loop-var
invariant-loop-var l = list_any (bytes_eq l.name) (map (λ v. v.name) (map variable_data (drop l.var-index l.vars))) ≡ list_any (bytes_eq l.name) (map (λ v. v.name) (map variable_data l.vars))
