use Rattle.std.proofs.Common.{arith}
use Rattle.worked_diagrams.proofs.RootLemmas.{once}
use Rattle.worked_diagrams.proofs.operations.tables_of_operations.Goals as goal

pub made-made-requires-clause-a_kept : goal.made-made-requires-clause-a_kept
made-made-requires-clause-a_kept g c =
    let n = c.of_table-a.result in
    omega (arith, once n, c.of_table-a.ensures.added n, c.of_table-b.ensures.added n, c.of_table-c.ensures.added n, c.loop-operation.invariant.roots n)

pub made-made-requires-clause-b_kept : goal.made-made-requires-clause-b_kept
made-made-requires-clause-b_kept g c =
    let n = c.of_table-b.result in
    omega (arith, once n, c.of_table-a.ensures.added n, c.of_table-b.ensures.added n, c.of_table-c.ensures.added n, c.loop-operation.invariant.roots n)

pub made-made-requires-clause-c_kept : goal.made-made-requires-clause-c_kept
made-made-requires-clause-c_kept g c =
    let n = c.of_table-c.result in
    omega (arith, once n, c.of_table-a.ensures.added n, c.of_table-b.ensures.added n, c.of_table-c.ensures.added n, c.loop-operation.invariant.roots n)

pub release-requires : goal.release-requires
release-requires g c =
    let n = c.of_table-a.result in
    omega (arith, once n, c.of_table-a.ensures.added n, c.of_table-b.ensures.added n, c.of_table-c.ensures.added n, c.loop-operation.invariant.roots n)

pub release-requires-2 : goal.release-requires-2
release-requires-2 g c =
    let n = c.of_table-b.result in
    omega (arith, once n, c.of_table-a.ensures.added n, c.of_table-b.ensures.added n, c.of_table-c.ensures.added n, c.loop-operation.invariant.roots n, c.release.ensures.released n)

pub release-requires-3 : goal.release-requires-3
release-requires-3 g c =
    let n = c.of_table-c.result in
    omega (arith, once n, c.of_table-a.ensures.added n, c.of_table-b.ensures.added n, c.of_table-c.ensures.added n, c.loop-operation.invariant.roots n, c.release.ensures.released n, c.release-2.ensures.released n)
