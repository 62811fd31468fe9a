use Rattle.std.proofs.Common.{◌≡◌, nat_lt, drop}
use Rattle.std.specs.List.{list_all}
use Rattle.spectra_types.proofs.patterns.are_short.Given as goal

-- what is left is the answer
abbrev pub invariant-loop-name : goal.invariant-loop-name
invariant-loop-name l = list_all (λ n. nat_lt n 65_536) (drop l.name-index l.names) ≡ list_all (λ n. nat_lt n 65_536) l.names
