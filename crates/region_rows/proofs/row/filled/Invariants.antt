use Rattle.std.proofs.Common.{◌≡◌, map, if◌then◌else◌}
use Rattle.std.specs.Prelude.{bit_and}
use Rattle.spec_model.specs.Steps.{below}
use Rattle.region_rows.specs.Rows.{ones_of}
use Rattle.region_rows.proofs.row.filled.Given as goal

abbrev pub invariant-loop-j : goal.invariant-loop-j
invariant-loop-j l = l.words.items ≡ map (λ j. bit_and (if l.value then 0xffff_ffff_ffff_ffff else 0) (ones_of l.count j)) (below l.j)
