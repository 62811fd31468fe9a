use Rattle.std.proofs.Common.{arith}
use Rattle.worked_diagrams.proofs.RootLemmas.{once}
use Rattle.worked_diagrams.proofs.operations.two_bits_and_their_conjunction_fill_five_nodes.Goals as goal

pub values_of_both-both-requires-clause-a_kept : goal.values_of_both-both-requires-clause-a_kept
values_of_both-both-requires-clause-a_kept g c =
    let n = c.bit-a.result in
    omega (arith, once n, c.bit-a.ensures.added n, c.bit-b.ensures.added n)

pub values_of_both-both-requires-clause-b_kept : goal.values_of_both-both-requires-clause-b_kept
values_of_both-both-requires-clause-b_kept g c =
    let n = c.bit-b.result in
    omega (arith, once n, c.bit-b.ensures.added n)

pub release-requires : goal.release-requires
release-requires g c =
    let n = c.bit-a.result in
    omega (arith, once n, c.bit-a.ensures.added n, c.bit-b.ensures.added n, c.values_of_both-both.ensures.roots n)

pub release-requires-2 : goal.release-requires-2
release-requires-2 g c =
    let n = c.bit-b.result in
    omega (arith, once n, c.bit-a.ensures.added n, c.bit-b.ensures.added n, c.values_of_both-both.ensures.roots n, c.release.ensures.released n)
