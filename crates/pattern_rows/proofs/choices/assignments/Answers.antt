use Rattle.std.proofs.Common.{◌<◌, ◌-◌, length, arith}
use Rattle.pattern_rows.proofs.Sizes.{made_at}
use Rattle.pattern_rows.proofs.choices.assignments.Goals as goal

pub values_in-requires : goal.values_in-requires
values_in-requires c =
    let within = c.loop-i.invariant.within in
    let test = c.loop-i-test.true in
    let below : c.loop-i.i - 1 < length c.args.domains.now = omega arith in
    made_at c.args.domains.now (c.loop-i.i - 1) c.index-domains-i.result below c.index-domains-i.is c.requires
