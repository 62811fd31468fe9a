use Rattle.std.proofs.Common.{◌≡◌, ℕ, ◌≤◌, ◌<◌, ◌+◌, ◌*◌, ◌&&◌, ◌||◌, length, drop}
use Rattle.std.specs.List.{list_all, list_any}
use Rattle.spec_model.specs.Views.{formula}
use Rattle.spec_model.specs.Meaning.{truths_at}
use Rattle.spec_model.specs.FormulaSizes.{nodes_in, nodes_in_each}
use Rattle.game_values.specs.Safety.{formulas_in}
use Rattle.game_values.specs.Times.{time_of}
use Rattle.pattern_rows.specs.Wides.{bit}
use Rattle.pattern_rows.specs.Blocks.{letters_in, reading_at}
use Rattle.pattern_rows.proofs.block.+block.Given as goal

-- expressions become smaller
abbrev pub decreases-values : goal.decreases-values
decreases-values l = 8 * nodes_in (formula l.e.now)

abbrev pub decreases-next_values : goal.decreases-next_values
decreases-next_values l = 8 * nodes_in (formula l.e.now) + 1

abbrev pub decreases-word : goal.decreases-word
decreases-word l = 8 * nodes_in (formula l.e.now) + 1

abbrev pub decreases-not_values : goal.decreases-not_values
decreases-not_values l = 8 * nodes_in (formula l.e.now) + 2

abbrev pub decreases-remainders : goal.decreases-remainders
decreases-remainders l = 8 * nodes_in (formula l.e.now) + 1

abbrev pub decreases-implied : goal.decreases-implied
decreases-implied l = 8 * (nodes_in (formula l.x.now) + nodes_in (formula l.y.now)) + 2

abbrev pub decreases-equivalent : goal.decreases-equivalent
decreases-equivalent l = 8 * (nodes_in (formula l.x.now) + nodes_in (formula l.y.now)) + 2

abbrev pub decreases-comparison : goal.decreases-comparison
decreases-comparison l = 8 * (nodes_in (formula l.x.now) + nodes_in (formula l.y.now)) + 2

abbrev pub decreases-sums : goal.decreases-sums
decreases-sums l = 8 * (nodes_in (formula l.x.now) + nodes_in (formula l.y.now)) + 2

abbrev pub decreases-differences : goal.decreases-differences
decreases-differences l = 8 * (nodes_in (formula l.x.now) + nodes_in (formula l.y.now)) + 2

abbrev pub decreases-products : goal.decreases-products
decreases-products l = 8 * (nodes_in (formula l.x.now) + nodes_in (formula l.y.now)) + 2

abbrev pub decreases-all_hold : goal.decreases-all_hold
decreases-all_hold l = 8 * nodes_in_each (formulas_in l.es.now) + 2

abbrev pub decreases-some_hold : goal.decreases-some_hold
decreases-some_hold l = 8 * nodes_in_each (formulas_in l.es.now) + 2

-- what is left makes of the word so far that of all
abbrev pub invariant-all_hold-loop-e : goal.invariant-all_hold-loop-e
invariant-all_hold-loop-e l =
    record {
      same : (i : ℕ) → i < length (letters_in l.b) → (bit l.all i && list_all (λ a. a (time_of l.at)) (truths_at (reading_at l.b i) (formulas_in (drop l.e-index l.es)))) ≡ list_all (λ a. a (time_of l.at)) (truths_at (reading_at l.b i) (formulas_in l.es));
      lighter : nodes_in_each (formulas_in (drop l.e-index l.es)) ≤ nodes_in_each (formulas_in l.es);
    }

abbrev pub invariant-some_hold-loop-e : goal.invariant-some_hold-loop-e
invariant-some_hold-loop-e l =
    record {
      same : (i : ℕ) → i < length (letters_in l.b) → (bit l.some i || list_any (λ a. a (time_of l.at)) (truths_at (reading_at l.b i) (formulas_in (drop l.e-index l.es)))) ≡ list_any (λ a. a (time_of l.at)) (truths_at (reading_at l.b i) (formulas_in l.es));
      lighter : nodes_in_each (formulas_in (drop l.e-index l.es)) ≤ nodes_in_each (formulas_in l.es);
    }
