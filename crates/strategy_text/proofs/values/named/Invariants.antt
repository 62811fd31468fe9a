use Rattle.std.proofs.Common.{◌≡◌, map, drop, string_bytes}
use Rattle.strategy_text.specs.Reading.{named}
use Rattle.strategy_text.proofs.values.named.Given as goal

-- the name is among those that are left
abbrev pub invariant-loop-n : goal.invariant-loop-n
invariant-loop-n l = named (map string_bytes l.names) (drop l.n-index l.domain) l.text ≡ named (map string_bytes l.names) l.domain l.text
