use Rattle.std.proofs.Common.{◌≡◌, ◌*◌, length, map}
use Rattle.std.specs.Int.{bit_not, w64}
use Rattle.column_planes.specs.Planes.{IsWrittenTo}
use Rattle.column_planes.proofs.planes.not_plane.Given as goal

abbrev pub invariant-loop-k : goal.invariant-loop-k
invariant-loop-k l =
    record {
      sized : length l.out ≡ length l.a;
      written : IsWrittenTo (8 * l.k) (map (bit_not w64) l.a) l.out;
    }
