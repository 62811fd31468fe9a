use Rattle.std.proofs.Common.{◌≡◌, ◌-◌, ◌++◌}
use Rattle.bit_compile.specs.Proper.{levels_from}
use Rattle.bdd_sets.proofs.levels.with_levels.Given as goal

-- the levels so far
abbrev pub invariant-loop-level : goal.invariant-loop-level
invariant-loop-level l = l.list.items ≡ l.fn.list.items ++ levels_from l.first (l.level - l.first)
