use Rattle.std.proofs.Common.{string_bytes, rules}
use Rattle.spec_gen.specs.Arbiter.{request_line}
use Rattle.spec_gen.proofs.Lines.{one_more}
use Rattle.spec_gen.proofs.text.write_requests.Goals as goal

pub loop-i-preserved : goal.loop-i-preserved
loop-i-preserved c =
    one_more request_line (string_bytes c.args.text.now) (string_bytes c.loop-i.text) (string_bytes c.write.new.self) c.loop-i.i-counter c.loop-i.invariant c.in_ok-write.ensures.bytes
