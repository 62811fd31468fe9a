use Rattle.std.proofs.Common.{arith, rules, length, ◌-◌, ◌∙◌}
use borrow.Rule.Slice.PartMut.{same_len_mid}
use Rattle.sp_outside.proofs.Steps.{front_step}
use Rattle.sp_outside.specs.declared.fault.Failed.{Failed}
use Rattle.sp_outside.proofs.file.fill.Goals as goal

pub loop-at-preserved : goal.loop-at-preserved
loop-at-preserved g c =
    let so_far = c.loop-at.invariant in
    let gave = c.in-Ok-Some.ensures in
    let fits = rw c.in-Ok-Some.field-0-is at gave.within in
    record {
      within = omega (arith, so_far.within, fits, same_len_mid c.loop-at.at (length c.loop-at.buf - c.loop-at.at) c.loop-at.buf c.read_part.new.buf (search rules));
      front = front_step Failed _ _ _ _ _ _ _ _ _ so_far.within fits so_far.keeps c.in-Ok-Some.field-0-is so_far.front gave.part;
      keeps = gave.keeps ∙ so_far.keeps;
      later = omega (arith, so_far.later, gave.cause.later);
    }
