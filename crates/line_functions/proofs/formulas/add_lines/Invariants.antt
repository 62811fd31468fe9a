use Rattle.std.proofs.Common.{◌≡◌, ◌++◌, drop, map}
use Rattle.bdd_sets.specs.LineScenes.{line_data}
use Rattle.line_functions.specs.Asking.{formulas_seen}
use Rattle.line_functions.proofs.formulas.add_lines.Given as goal

-- those so far and those of what is left are all
abbrev pub invariant-loop-line : goal.invariant-loop-line
invariant-loop-line l = formulas_seen l.all.items ++ map (λ x. x.1) (line_data (drop l.line-index l.lines)) ≡ formulas_seen l.fn.all.items ++ map (λ x. x.1) (line_data l.lines)
