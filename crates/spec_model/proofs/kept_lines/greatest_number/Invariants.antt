use Rattle.std.proofs.Common.{◌≡◌, map, take, fold, max}
use Rattle.spec_model.specs.Views.{line_data}
use Rattle.spec_model.proofs.kept_lines.greatest_number.Given as goal

-- it is the greatest so far
abbrev pub invariant-loop-line : goal.invariant-loop-line
invariant-loop-line l = l.greatest ≡ fold max 0 (map (λ k. k.number) (map line_data (take l.line-index l.lines)))
