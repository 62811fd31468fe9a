use Rattle.std.proofs.Common.{arith}
use Rattle.region_bdd.proofs.object.RegionBdd.drop.Goals as goal

pub release_own-requires : goal.release_own-requires
release_own-requires c = λ n. (let all = c.args.self.whole.sound.counted n in omega (arith, all))

pub release_slots-requires : goal.release_slots-requires
release_slots-requires c = λ n. (let all = c.args.self.whole.sound.counted n in let back = c.release_own.ensures n in omega (arith, all, back))
