use Rattle.std.proofs.Common.{◌≡◌, ◌+◌, map}
use Rattle.regions.specs.Kept.{weight, IsSameGame}
use Rattle.gr1_sys.specs.Held.{weight_as}
use Rattle.gr1_sys.proofs.spending.spend_all.Given as goal

-- what is held besides what is left was held at first but for what was given
abbrev pub invariant-loop-r : goal.invariant-loop-r
invariant-loop-r g l =
    let kept = g.G.Regions.kept in
    let first = kept l.fn.g in
    record {
      left : (w : _) → weight (kept l.g) w + weight_as (l.fn.rs.items) (map first.set (l.fn.rs.items)) w ≡ weight first w + weight_as (l.rs.items) (map first.set (l.rs.items)) w;
      jam : (kept l.g).jam ≡ first.jam;
      same : IsSameGame first (kept l.g);
    }

abbrev pub decreases-loop-r : goal.decreases-loop-r
decreases-loop-r g l = goal.left-loop-r g l
