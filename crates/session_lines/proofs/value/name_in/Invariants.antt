use Rattle.std.proofs.Common.{map, drop, string_bytes}
use Rattle.spec_model.specs.declared.value.Value.{Value}
use Rattle.spec_model.specs.Values.{Enumeration}
use Rattle.session_lines.specs.Reading.{IsWritten}
use Rattle.session_lines.proofs.value.name_in.Given as goal

-- what is written so is among what is left
abbrev pub invariant-loop-n : goal.invariant-loop-n
invariant-loop-n l = (x : Value) → IsWritten (map string_bytes l.names) (Enumeration l.domain) l.text x → IsWritten (map string_bytes l.names) (Enumeration (drop l.n-index l.domain)) l.text x
