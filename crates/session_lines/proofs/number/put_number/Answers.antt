use Rattle.std.proofs.Common.{◌-◌, length, drop, arith, length-take, length-drop}
use Rattle.std.proofs.lemmas.Fmt.{length-decimal-le}
use Rattle.session_lines.proofs.number.put_number.Goals as goal

pub put_digits-count-requires : goal.put_digits-count-requires
put_digits-count-requires c =
    omega (arith, c.requires, length-decimal-le 19 c.unsigned_abs.result (omega arith) (omega (arith, c.unsigned_abs.ensures.bound)) (omega (arith, c.unsigned_abs.ensures.bound)), length-take (length c.args.buffer.now - 1) (drop 1 c.args.buffer.now), length-drop 1 c.args.buffer.now)

pub put_digits-requires : goal.put_digits-requires
put_digits-requires c =
    omega (arith, c.requires, length-decimal-le 19 c.unsigned_abs-2.result (omega arith) (omega (arith, c.unsigned_abs-2.ensures.bound)) (omega (arith, c.unsigned_abs-2.ensures.bound)))
