use Rattle.std.proofs.Common.{◌≡◌, ℕ, ◌<◌, ◌+◌, ◌*◌, false, length, get_or}
use Rattle.spec_model.specs.declared.value.Value.TheVariants as value
use Rattle.game_play.specs.Sights.{cell_in}
use Rattle.trace_planes.specs.Rows.{KeepsOthers}
use Rattle.trace_planes.proofs.walk.write_cells.Given as goal

abbrev pub invariant-loop-k : goal.invariant-loop-k
invariant-loop-k l =
    record {
      sized : length l.cells ≡ length l.fn.cells;
      written : (k : ℕ) → k < l.k → get_or l.cells (4096 * k + l.i) 0 ≡ cell_in (get_or l.here k (value.Bool false));
      others : KeepsOthers l.i l.fn.cells l.cells;
    }
