use Rattle.std.proofs.Common.{◌≡◌, ◌≤◌, length, map, vec_len, vec_capacity}
use Rattle.regions.specs.Kept.{IsSameGame}
use Rattle.gr1_sys.specs.Held.{MakesRegions}
use Rattle.gr1_env.specs.Held.{list_regions, list_sets, AreLeast}
use Rattle.gr1_env.proofs.holds.all_delays.Given as goal

-- the iterates for the assumptions so far
abbrev pub invariant-loop-asm : goal.invariant-loop-asm
invariant-loop-asm g l =
    let kept = g.G.Regions.kept in
    let first = kept l.fn.g in
    record {
      made : MakesRegions first (kept l.g) (list_regions l.xs.items) (list_sets first.game (first.set l.cover) (map first.set l.asms) l.xs.items);
      least : AreLeast first.game (first.set l.cover) (map first.set l.asms) l.xs.items;
      counted : vec_len l.xs ≡ l.asm-index;
      room : length l.asms ≤ vec_capacity l.xs;
      same : IsSameGame first (kept l.g);
    }
