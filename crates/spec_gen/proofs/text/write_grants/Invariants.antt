use Rattle.std.proofs.Common.{◌≡◌, ◌++◌, string_bytes}
use Rattle.std.specs.List.{flat_map}
use Rattle.spec_gen.specs.Arbiter.{clients, grant_line}
use Rattle.spec_gen.proofs.text.write_grants.Given as goal

abbrev pub invariant-loop-i : goal.invariant-loop-i
invariant-loop-i l = string_bytes l.text ≡ string_bytes l.initial.text ++ flat_map grant_line (clients l.i-counter)
