use Rattle.std.proofs.Common.{arith, map, string_bytes}
use Rattle.session_lines.proofs.InOrder.{begins_more}
use Rattle.session_lines.proofs.read.read_in_order.Goals as goal

pub loop-i-preserved : goal.loop-i-preserved
loop-i-preserved c =
    begins_more (map string_bytes c.args.names.now) c.args.vars.now c.loop-i.values c.loop-i.i c.index-vars-i.result c.in-Some-value_in.value c.args.line.now c.loop-i.rest.now c.in-Some.text.now c.in-Some.after.now
    c.loop-i-test.true (omega (arith, c.loop-i-test.true, c.loop-i.auto.values, c.requires)) c.index-vars-i.is c.loop-i.invariant c.in-Some.ensures c.in-Some-value_in.ensures.some
