use Rattle.std.proofs.Common.{arith}
use Rattle.std.proofs.lemmas.Int.{to_z-of_z}
use Rattle.spec_model.proofs.Domains.{within}
use Rattle.spec_model.proofs.variables.is_within.Goals as goal

pub returns-then-lo-z : goal.returns-then-lo-z
returns-then-lo-z c = let e = within c.args.z c.args.lo c.args.hi in grind (arith, to_z-of_z)

pub returns-else-lo-z : goal.returns-else-lo-z
returns-else-lo-z c = let e = within c.args.z c.args.lo c.args.hi in grind (arith, to_z-of_z)
