use Rattle.std.proofs.Common.{◌≤◌, length, arith}
use Rattle.std.specs.Fmt.{decimal}
use Rattle.std.proofs.lemmas.Fmt.{length-decimal-le}
use Rattle.session_lines.proofs.number.put_count.Goals as goal

pub put_digits-requires : goal.put_digits-requires
put_digits-requires c =
    let short : length (decimal c.args.n) ≤ 20 = length-decimal-le 20 c.args.n (omega arith) (omega (arith, c.ranges.n.fits)) (omega (arith, c.ranges.n.fits)) in
    omega (arith, short, c.requires)

pub returns-clause-short : goal.returns-clause-short
returns-clause-short c = length-decimal-le 20 c.args.n (omega arith) (omega (arith, c.ranges.n.fits)) (omega (arith, c.ranges.n.fits))
