use Rattle.std.proofs.Common.{◌≡◌, ◌*◌, length, bit_or}
use Rattle.std.specs.Simd.Lanes.{zip2}
use Rattle.column_planes.specs.Planes.{IsWrittenTo}
use Rattle.column_planes.proofs.planes.or_planes.Given as goal

abbrev pub invariant-loop-k : goal.invariant-loop-k
invariant-loop-k l =
    record {
      sized : length l.out ≡ length l.a;
      written : IsWrittenTo (8 * l.k) (zip2 bit_or l.a l.b) l.out;
    }
