use Rattle.std.proofs.Common.{◌≡◌, ◌≤◌, map, get_or, length, vec_len, vec_capacity}
use Rattle.spec_model.specs.Steps.{below}
use Rattle.spec_model.specs.Sets.{no_states}
use Rattle.regions.specs.Kept.{IsSameGame}
use Rattle.gr1_sys.specs.Held.{MakesRegions}
use Rattle.gr1_env.specs.Givens.{wanted}
use Rattle.gr1_env.proofs.givens.regions_of.Given as goal

-- the sets so far
abbrev pub invariant-loop-i : goal.invariant-loop-i
invariant-loop-i g l =
    let kept = g.G.Regions.kept in
    let first = kept l.fn.g in
    record {
      made : MakesRegions first (kept l.g) l.rs.items (map (λ i. get_or (wanted first.game l.fn.kind) i no_states) (below l.i));
      counted : vec_len l.rs ≡ l.i;
      room : length (wanted first.game l.fn.kind) ≤ vec_capacity l.rs;
      same : IsSameGame first (kept l.g);
    }
