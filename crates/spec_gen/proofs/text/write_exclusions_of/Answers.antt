use Rattle.std.proofs.Common.{string_bytes, rules, arith}
use Rattle.spec_gen.specs.Arbiter.{exclusion_line}
use Rattle.spec_gen.proofs.Lines.{one_more_after}
use Rattle.spec_gen.proofs.text.write_exclusions_of.Goals as goal

pub loop-k-preserved : goal.loop-k-preserved
loop-k-preserved c =
    one_more_after (exclusion_line c.args.i) (string_bytes c.args.text.now) (string_bytes c.loop-k.text) (string_bytes c.write.new.self) c.args.i c.loop-k.k-counter (omega arith) c.loop-k.invariant c.in_ok-write.ensures.bytes
