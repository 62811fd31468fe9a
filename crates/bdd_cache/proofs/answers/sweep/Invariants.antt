use Rattle.std.proofs.Common.{◌≡◌, ℕ, ◌<◌, ◌≤◌, get_or, vec_len, vec_capacity}
use Rattle.bdd_cache.specs.Kept.{IsSwept}
use Rattle.bdd_cache.specs.declared.cell.TheConstants.{EMPTY}
use Rattle.bdd_cache.specs.Cells.{answer_in}
use Rattle.bdd_cache.proofs.answers.sweep.Given as goal

abbrev pub invariant-loop-i : goal.invariant-loop-i
invariant-loop-i l =
    record {
      size : vec_len l.cells ≡ vec_len l.initial.cells;
      capacity : vec_capacity l.cells ≡ vec_capacity l.initial.cells;
      done : (k : ℕ) → k < l.i → IsSwept l.live (answer_in (get_or l.initial.cells.items k EMPTY)) (answer_in (get_or l.cells.items k EMPTY));
      left : (k : ℕ) → l.i ≤ k → get_or l.cells.items k EMPTY ≡ get_or l.initial.cells.items k EMPTY;
    }
