use Rattle.std.proofs.Common.{◌≡◌, ◌≤◌, map, length, vec_len, vec_capacity}
use Rattle.spec_model.specs.Steps.{below}
use Rattle.regions.specs.Kept.{IsSameGame}
use Rattle.gr1_sys.specs.Held.{MakesRegions, part_at}
use Rattle.gr1_sys.proofs.ranks.solutions.Given as goal

-- the parts for the assumptions so far
abbrev pub invariant-loop-lapse : goal.invariant-loop-lapse
invariant-loop-lapse g l =
    let kept = g.G.Regions.kept in
    let first = kept l.fn.g in
    record {
      made : MakesRegions first (kept l.g) l.xs.items (map (part_at first l.base l.lapses) (below l.lapse-index));
      counted : vec_len l.xs ≡ l.lapse-index;
      room : length l.lapses ≤ vec_capacity l.xs;
      same : IsSameGame first (kept l.g);
    }
