use Rattle.std.proofs.Common.{◌≡◌}
use Rattle.worked_diagrams.proofs.operations.first_bits_where_the_last_two_differ.Given as goal

abbrev pub invariant-loop-fixed : goal.invariant-loop-fixed
invariant-loop-fixed g l = l.diagrams.state.table.levels ≡ 3
