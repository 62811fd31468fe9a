use Rattle.std.proofs.Common.{◌≡◌, ℕ, ◌≤◌, ◌<◌, ◌+◌, ◌*◌, ◌&&◌, ◌||◌, length, drop}
use Rattle.std.specs.List.{list_all, list_any}
use Rattle.spec_model.specs.Views.{formula}
use Rattle.spec_model.specs.Meaning.{Reading, truths_at}
use Rattle.spec_model.specs.FormulaSizes.{nodes_in, nodes_in_each}
use Rattle.game_values.specs.Times.{time_of}
use Rattle.game_values.specs.Safety.{formulas_in}
use Rattle.column_planes.specs.Planes.{bit_in}
use Rattle.column_planes.specs.Columns.{IsSeen, column_data}
use Rattle.column_planes.proofs.truths.+truths.Given as goal

-- expressions become smaller
abbrev pub decreases-plane : goal.decreases-plane
decreases-plane l = 8 * nodes_in (formula l.e.now)

abbrev pub decreases-next_plane : goal.decreases-next_plane
decreases-next_plane l = 8 * nodes_in (formula l.e.now) + 1

abbrev pub decreases-negation : goal.decreases-negation
decreases-negation l = 8 * nodes_in (formula l.e.now) + 1

abbrev pub decreases-implication : goal.decreases-implication
decreases-implication l = 8 * (nodes_in (formula l.a.now) + nodes_in (formula l.b.now)) + 1

abbrev pub decreases-equivalence : goal.decreases-equivalence
decreases-equivalence l = 8 * (nodes_in (formula l.a.now) + nodes_in (formula l.b.now)) + 1

abbrev pub decreases-all_hold : goal.decreases-all_hold
decreases-all_hold l = 8 * nodes_in_each (formulas_in l.es.now) + 2

abbrev pub decreases-some_hold : goal.decreases-some_hold
decreases-some_hold l = 8 * nodes_in_each (formulas_in l.es.now) + 2

-- what is left makes of the plane so far that of all
abbrev pub invariant-all_hold-loop-e : goal.invariant-all_hold-loop-e
invariant-all_hold-loop-e l =
    record {
      sized : length l.out ≡ length l.fn.out;
      same : (j : ℕ) → j < l.c.bits → (r : Reading) (t : ℕ) → IsSeen (column_data l.c) (time_of l.at) j r t →
          (bit_in l.out j && list_all (λ a. a t) (truths_at r (formulas_in (drop l.e-index l.es)))) ≡ list_all (λ a. a t) (truths_at r (formulas_in l.es));
      lighter : nodes_in_each (formulas_in (drop l.e-index l.es)) ≤ nodes_in_each (formulas_in l.es);
    }

abbrev pub invariant-some_hold-loop-e : goal.invariant-some_hold-loop-e
invariant-some_hold-loop-e l =
    record {
      sized : length l.out ≡ length l.fn.out;
      same : (j : ℕ) → j < l.c.bits → (r : Reading) (t : ℕ) → IsSeen (column_data l.c) (time_of l.at) j r t →
          (bit_in l.out j || list_any (λ a. a t) (truths_at r (formulas_in (drop l.e-index l.es)))) ≡ list_any (λ a. a t) (truths_at r (formulas_in l.es));
      lighter : nodes_in_each (formulas_in (drop l.e-index l.es)) ≤ nodes_in_each (formulas_in l.es);
    }
