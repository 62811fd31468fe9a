use Rattle.std.proofs.Common.{map, take, string_bytes}
use Rattle.spec_model.specs.Views.{variable_data}
use Rattle.session_lines.specs.Reading.{words, AreGiven}
use Rattle.session_lines.proofs.read.read_in_any_order.Given as goal

-- the variables so far have their values
abbrev pub invariant-loop-i : goal.invariant-loop-i
invariant-loop-i l = AreGiven (map string_bytes l.names) (words l.line) (map variable_data (take l.i l.vars)) (take l.i l.values)
