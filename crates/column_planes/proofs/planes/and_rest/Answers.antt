use Rattle.std.proofs.Common.{bit_and, ◌∙◌, arith}
use Rattle.std.proofs.lemmas.List.{length-set}
use Rattle.column_planes.proofs.Lanes.{one_of_both, both_written}
use Rattle.column_planes.proofs.planes.and_rest.Goals as goal

pub loop-k-preserved : goal.loop-k-preserved
loop-k-preserved c =
    record {
      sized = length-set c.loop-k.out c.loop-k.k _ ∙ c.loop-k.invariant.sized;
      written = one_of_both bit_and c.args.a.now c.args.b.now c.loop-k.out c.loop-k.k c.requires.lengths.0 c.loop-k.invariant.sized (omega (arith, c.loop-k-test.true)) c.loop-k.invariant.written;
    }

pub returns : goal.returns
returns c = both_written bit_and c.args.a.now c.args.b.now c.loop-k.out c.loop-k.k c.requires.lengths.0 c.loop-k.invariant.sized (omega (arith, c.loop-k-test.false)) c.loop-k.invariant.written
