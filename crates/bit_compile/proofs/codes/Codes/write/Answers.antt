use Rattle.std.proofs.Common.{◌<◌, arith, length, ◌∙◌}
use Rattle.bit_compile.proofs.SlotLemmas.{value_among, length-assignment}
use Rattle.bit_compile.proofs.BitLemmas.{one_written, one_kept, other_stays}
use Rattle.bit_compile.proofs.codes.Codes.write.Goals as goal

pub write_value-requires-clause-known : goal.write_value-requires-clause-known
write_value-requires-clause-known c = let all = length-assignment c.args.self.now c.args.state.now c.requires.state in omega (arith, all, c.loop-k-test.true)

pub write_value-requires-clause-among : goal.write_value-requires-clause-among
write_value-requires-clause-among c = value_among c.args.self.now c.args.state.now c.loop-k.k c.requires.state c.loop-k-test.true

pub loop-k-preserved : goal.loop-k-preserved
loop-k-preserved c =
    let all = length-assignment c.args.self.now c.args.state.now c.requires.state in
    let known : c.loop-k.k < length c.args.self.now = omega (arith, all, c.loop-k-test.true) in
    record {
      room = c.write_value.auto.bits ∙ c.loop-k.invariant.room;
      written = one_written c.args.self.now c.args.at c.args.state.now c.loop-k.k c.loop-k.bits c.write_value.new.bits known c.loop-k.invariant.written c.write_value.ensures.written c.write_value.ensures.others;
      others = one_kept c.args.self.now c.args.at c.loop-k.k c.args.bits.now c.loop-k.bits c.write_value.new.bits known c.loop-k.invariant.others c.write_value.ensures.others;
    }

pub returns-clause-written : goal.returns-clause-written
returns-clause-written c =
    let all = length-assignment c.args.self.now c.args.state.now c.requires.state in
    λ k known. c.loop-k.invariant.written k (omega (arith, all, known, c.loop-k-test.false, c.loop-k.auto))

pub returns-clause-keeps : goal.returns-clause-keeps
returns-clause-keeps c = λ other values differ has. other_stays c.args.self.now c.args.at other values c.args.bits.now c.loop-k.bits differ c.loop-k.invariant.others has
