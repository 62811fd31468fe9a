use Rattle.std.proofs.Common.{◌≡◌, ◌++◌, map, filter, drop, not}
use Rattle.spec_model.specs.Moves.{is_guarantee}
use Rattle.spec_model.specs.Views.{line_data}
use Rattle.spec_model.proofs.kept_lines.copy_other_lines.Given as goal

-- those so far that are no guarantees are copied
abbrev pub invariant-loop-line : goal.invariant-loop-line
invariant-loop-line l =
    map line_data l.copies.items ++ filter (λ k. not (is_guarantee k.role)) (map line_data (drop l.line-index l.lines)) ≡ filter (λ k. not (is_guarantee k.role)) (map line_data l.lines)
