use Rattle.std.proofs.Common.{◌≡◌, ◌++◌, map, filter, drop}
use Rattle.spec_model.specs.Cores.{stays}
use Rattle.spec_model.specs.Views.{line_data}
use Rattle.spec_model.proofs.kept_lines.copy_kept_lines.Given as goal

-- those so far that stay are copied
abbrev pub invariant-loop-line : goal.invariant-loop-line
invariant-loop-line l =
    map line_data l.copies.items ++ filter (stays l.kept) (map line_data (drop l.line-index l.lines)) ≡ filter (stays l.kept) (map line_data l.lines)
