use Rattle.std.proofs.Common.{◌∙◌, arith}
use Rattle.std.specs.Int.{bit_not, w64}
use Rattle.std.proofs.lemmas.List.{length-set}
use Rattle.column_planes.proofs.Lanes.{one_of_one, one_written}
use Rattle.column_planes.proofs.planes.not_rest.Goals as goal

pub loop-k-preserved : goal.loop-k-preserved
loop-k-preserved c =
    record {
      sized = length-set c.loop-k.out c.loop-k.k _ ∙ c.loop-k.invariant.sized;
      written = one_of_one (bit_not w64) c.args.a.now c.loop-k.out c.loop-k.k c.loop-k.invariant.sized (omega (arith, c.loop-k-test.true)) c.loop-k.invariant.written;
    }

pub returns : goal.returns
returns c = one_written (bit_not w64) c.args.a.now c.loop-k.out c.loop-k.k c.loop-k.invariant.sized (omega (arith, c.loop-k-test.false)) c.loop-k.invariant.written
