use Rattle.std.proofs.Common.{◌≡◌, ◌++◌, string_bytes}
use Rattle.std.specs.List.{flat_map}
use Rattle.spec_gen.specs.Arbiter.{clients_after, exclusion_line}
use Rattle.spec_gen.proofs.text.write_exclusions_of.Given as goal

abbrev pub invariant-loop-k : goal.invariant-loop-k
invariant-loop-k l =
    string_bytes l.text ≡ string_bytes l.initial.text ++ flat_map (exclusion_line l.i) (clients_after l.i l.k-counter)
