use Rattle.std.proofs.Common.{arith}
use Rattle.bdd_sets.proofs.ListLemmas.{one_itself}
use Rattle.region_bdd.proofs.ending.release_own.Goals as goal

pub release-requires-2 : goal.release-requires-2
release-requires-2 c =
    let n = c.args.own.step.proper in
    let all = c.requires n in
    let back = c.release.ensures.released n in
    let one = one_itself n in
    omega (arith, all, back, one)
