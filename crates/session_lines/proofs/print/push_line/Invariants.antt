use Rattle.std.proofs.Common.{◌≡◌, ◌≤◌, ◌++◌, map, string_bytes, vec_capacity}
use Rattle.spec_model.specs.Views.{variable_data}
use Rattle.session_lines.specs.Shown.{show}
use Rattle.session_lines.proofs.Printing.{led, rest_of}
use Rattle.session_lines.proofs.print.push_line.Given as goal

-- what is printed and what is left make the line
abbrev pub invariant-loop-i : goal.invariant-loop-i
invariant-loop-i l = record {
  so_far : l.out.items ++ led l.separator (rest_of (map string_bytes l.names) l.vars l.values l.i) ≡ l.initial.out.items ++ show (map string_bytes l.names) (map variable_data l.vars) l.values;
  capacity : vec_capacity l.initial.out ≤ vec_capacity l.out;
}
