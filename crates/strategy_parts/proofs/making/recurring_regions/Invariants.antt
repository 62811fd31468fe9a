use Rattle.std.proofs.Common.{◌≡◌, ◌≤◌, map, take, vec_len, vec_capacity}
use Rattle.regions.specs.Kept.{States, IsSameGame}
use Rattle.strategy_parts.specs.Wanted.{sets_wanted}
use Rattle.strategy_parts.specs.Owned.{MakesAll, region_items}
use Rattle.strategy_parts.proofs.making.recurring_regions.Given as goal

-- those so far
abbrev pub invariant-loop-i : goal.invariant-loop-i
invariant-loop-i g l =
    let kept = g.G.Regions.kept in
    let first = kept l.fn.g in
    record {
      made : MakesAll first (kept l.g) (region_items l.rs.items) (map States (take l.i (sets_wanted first.game l.fn.kind)));
      counted : vec_len l.rs ≡ l.i;
      room : l.n ≤ vec_capacity l.rs;
      same : IsSameGame first (kept l.g);
    }
