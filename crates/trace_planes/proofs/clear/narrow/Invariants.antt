use Rattle.std.proofs.Common.{◌≡◌, ℕ, ◌<◌, ◌&&◌, length, map, drop}
use Rattle.spec_model.specs.Views.{formula}
use Rattle.spec_model.specs.Games.{GameData, State}
use Rattle.column_planes.specs.Planes.{bit_in}
use Rattle.column_planes.specs.Columns.{column_data}
use Rattle.trace_planes.specs.Moves.{IsMove, are_kept}
use Rattle.trace_planes.proofs.clear.narrow.Given as goal

abbrev pub invariant-loop-k : goal.invariant-loop-k
invariant-loop-k l =
    record {
      sized : length l.out ≡ length l.fn.out;
      same : (j : ℕ) → j < l.c.bits → (g : GameData) (r s : State) → IsMove (column_data l.c) j g r s →
          (bit_in l.out j && are_kept g r s (drop l.k l.late) (map (λ l'. (l'.0, formula l'.1)) (drop l.k l.lines))) ≡ (bit_in l.fn.out j && are_kept g r s l.late (map (λ l'. (l'.0, formula l'.1)) l.lines));
    }
