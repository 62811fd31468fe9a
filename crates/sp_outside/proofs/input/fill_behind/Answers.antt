use Rattle.std.proofs.Common.{arith, rules, length, ◌-◌, ◌∙◌}
use borrow.Rule.Slice.PartMut.{same_len_mid}
use Rattle.sp_outside.proofs.HowOften.{read_within, read_both, read_some, read_fault, idle_failed}
use Rattle.sp_outside.proofs.Taken.{front_stays, taken_more}
use Rattle.sp_outside.proofs.input.fill_behind.Goals as goal

pub loop-at-preserved : goal.loop-at-preserved
loop-at-preserved g c =
    let so_far = c.loop-at.invariant in
    let gave = c.in_ok-count.ensures in
    let fits = gave.within.0 in
    record {
      begun = omega (arith, so_far.begun);
      within = omega (arith, so_far.within, fits, same_len_mid c.loop-at.at (length c.loop-at.buf - c.loop-at.at) c.loop-at.buf c.read.new.buf (search rules));
      front = front_stays c.loop-at.buf c.read.new.buf c.args.start c.loop-at.at c.in_ok-count.count (length c.loop-at.buf - c.loop-at.at) so_far.begun so_far.within fits ∙ so_far.front;
      taken = taken_more c.loop-at.buf c.read.new.buf c.args.start c.loop-at.at c.in_ok-count.count (length c.loop-at.buf - c.loop-at.at) so_far.begun so_far.within fits _ _ _ so_far.taken gave.moved.0;
      reads = read_within _ _ _ _ _ _ _ _ (omega (arith, so_far.begun)) (omega arith)
          (read_both _ _ _ _ _ _ _ _ _ _ so_far.reads (read_some _ _ _ _ _ c.read.new.buf fits (omega (arith, c.if-count-eq0.false)) gave.moved.0 gave.once));
      later = omega (arith, so_far.later, gave.cause.later);
    }

pub returns-in_err-count-clause-reads : goal.returns-in_err-count-clause-reads
returns-in_err-count-clause-reads g c =
    let so_far = c.loop-at.invariant in
    read_within _ _ _ _ _ _ _ _ (omega (arith, so_far.within)) (idle_failed _ c.from_residual.result c.from_residual.ensures.0) (read_both _ _ _ _ _ _ _ _ _ _ so_far.reads (read_fault _ _ _ _ c.in_err-count.ensures.moved c.in_err-count.ensures.once))
