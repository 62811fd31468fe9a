use Rattle.std.proofs.Common.{arith}
use Rattle.sp_outside.proofs.Steps.{appends_more}
use Rattle.sp_outside.proofs.line.write_line.Goals as goal

pub loop-taken-preserved : goal.loop-taken-preserved
loop-taken-preserved g c =
    let so_far = c.loop-taken.invariant in
    let wrote = c.in_ok-count.ensures in
    record {
      within = omega (arith, wrote.within);
      written = appends_more _ _ _ c.args.line.now _ _ so_far.written wrote.appended;
      later = omega (arith, so_far.later, wrote.cause.later);
    }
