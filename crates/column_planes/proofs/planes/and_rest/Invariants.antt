use Rattle.std.proofs.Common.{◌≡◌, length, bit_and}
use Rattle.std.specs.Simd.Lanes.{zip2}
use Rattle.column_planes.specs.Planes.{IsWrittenTo}
use Rattle.column_planes.proofs.planes.and_rest.Given as goal

abbrev pub invariant-loop-k : goal.invariant-loop-k
invariant-loop-k l =
    record {
      sized : length l.out ≡ length l.a;
      written : IsWrittenTo l.k (zip2 bit_and l.a l.b) l.out;
    }
