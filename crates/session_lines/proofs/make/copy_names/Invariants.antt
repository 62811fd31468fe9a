use Rattle.std.proofs.Common.{◌≡◌, map, take, string_bytes}
use Rattle.session_lines.proofs.make.copy_names.Given as goal

-- those so far are copied
abbrev pub invariant-loop-name : goal.invariant-loop-name
invariant-loop-name l = map string_bytes l.copies.items ≡ map string_bytes (take l.name-index l.names)
