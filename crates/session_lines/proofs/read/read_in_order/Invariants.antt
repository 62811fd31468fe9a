use Rattle.std.proofs.Common.{map, take, string_bytes}
use Rattle.spec_model.specs.Views.{variable_data}
use Rattle.session_lines.specs.Beginning.{BeginsWith}
use Rattle.session_lines.proofs.read.read_in_order.Given as goal

-- the line begins with the items of the variables so far
abbrev pub invariant-loop-i : goal.invariant-loop-i
invariant-loop-i l = BeginsWith (map string_bytes l.names) (map variable_data (take l.i l.vars)) (take l.i l.values) l.line l.rest
