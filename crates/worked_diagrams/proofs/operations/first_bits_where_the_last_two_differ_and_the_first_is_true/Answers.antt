use Rattle.std.proofs.Common.{arith}
use Rattle.worked_diagrams.proofs.RootLemmas.{once}
use Rattle.worked_diagrams.proofs.operations.first_bits_where_the_last_two_differ_and_the_first_is_true.Goals as goal

pub common_bits-requires-clause-a_kept : goal.common_bits-requires-clause-a_kept
common_bits-requires-clause-a_kept g c =
    let n = c.of_table-a.result in
    omega (arith, once n, c.of_table-a.ensures.added n, c.of_table-b.ensures.added n)

pub common_bits-requires-clause-b_kept : goal.common_bits-requires-clause-b_kept
common_bits-requires-clause-b_kept g c =
    let n = c.of_table-b.result in
    omega (arith, once n, c.of_table-b.ensures.added n)

pub release-requires : goal.release-requires
release-requires g c =
    let n = c.of_table-a.result in
    omega (arith, once n, c.of_table-a.ensures.added n, c.of_table-b.ensures.added n)

pub release-requires-2 : goal.release-requires-2
release-requires-2 g c =
    let n = c.of_table-b.result in
    omega (arith, once n, c.of_table-a.ensures.added n, c.of_table-b.ensures.added n, c.release.ensures.released n)
