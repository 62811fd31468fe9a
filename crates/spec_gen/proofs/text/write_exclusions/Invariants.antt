use Rattle.std.proofs.Common.{◌≡◌, ◌++◌, string_bytes}
use Rattle.std.specs.List.{flat_map}
use Rattle.spec_gen.specs.Arbiter.{clients, clients_after, exclusion_line}
use Rattle.spec_gen.proofs.text.write_exclusions.Given as goal

abbrev pub invariant-loop-i : goal.invariant-loop-i
invariant-loop-i l =
    string_bytes l.text ≡ string_bytes l.initial.text ++ flat_map (λ i. flat_map (exclusion_line i) (clients_after i l.n)) (clients l.i)
