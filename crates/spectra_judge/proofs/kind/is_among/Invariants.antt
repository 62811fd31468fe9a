use Rattle.std.proofs.Common.{◌≡◌, ◌==◌, drop}
use Rattle.std.specs.List.{list_any}
use Rattle.spectra_judge.proofs.kind.is_among.Given as goal

-- what is left is the answer
abbrev pub invariant-loop-other : goal.invariant-loop-other
invariant-loop-other l = list_any (λ other. other == l.name) (drop l.other-index l.names) ≡ list_any (λ other. other == l.name) l.names
