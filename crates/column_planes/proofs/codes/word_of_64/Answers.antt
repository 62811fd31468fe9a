use Rattle.std.proofs.Common.{eqb, take, arith, w16}
use Rattle.std.proofs.lemmas.List.{length-take-le}
use Rattle.std.proofs.lemmas.Simd.{bitmask_splat}
use Rattle.column_planes.proofs.codes.word_of_64.Goals as goal

pub returns : goal.returns
returns c = bitmask_splat w16 eqb (take 64 c.args.codes.now) 64 c.args.value (length-take-le 64 c.args.codes.now c.requires) (omega arith)
