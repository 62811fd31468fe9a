use Rattle.std.proofs.Common.{◌≡◌, ◌++◌, map, filter, drop}
use Rattle.spec_model.specs.Moves.{is_guarantee}
use Rattle.spec_model.specs.Views.{line_data}
use Rattle.solve.proofs.parts.guarantee_numbers.Given as goal

-- the numbers of those so far are taken
abbrev pub invariant-loop-line : goal.invariant-loop-line
invariant-loop-line l =
    l.numbers.items ++ map (λ k. k.number) (filter (λ k. is_guarantee k.role) (map line_data (drop l.line-index l.lines))) ≡ map (λ k. k.number) (filter (λ k. is_guarantee k.role) (map line_data l.lines))
