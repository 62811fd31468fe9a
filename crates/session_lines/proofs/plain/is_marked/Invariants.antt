use Rattle.std.proofs.Common.{◌≡◌, ◌||◌, ◌==◌, drop}
use Rattle.std.specs.List.{list_any}
use Rattle.session_lines.specs.Reading.{is_blank}
use Rattle.session_lines.proofs.plain.is_marked.Given as goal

-- what is left decides
abbrev pub invariant-loop-byte : goal.invariant-loop-byte
invariant-loop-byte l = list_any (λ c. is_blank c || c == 61) (drop l.byte-index l.name) ≡ list_any (λ c. is_blank c || c == 61) l.name
