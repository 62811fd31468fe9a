use Rattle.std.proofs.Common.{◌≡◌, ◌≤◌, ◌+◌, ◌*◌, map, drop}
use Rattle.spec_model.specs.Views.{formula}
use Rattle.spec_model.specs.Sizes.{past_trees_of_all}
use Rattle.spec_model.specs.FormulaSizes.{nodes_in, nodes_in_each}
use Rattle.game_values.specs.Safety.{formulas_in}
use Rattle.past_bits.specs.Entries.{added}
use Rattle.past_bits.specs.Bits.{tree_of}
use Rattle.spectra_patterns.proofs.gathering.+gathering.Given as goal

-- expressions become smaller
abbrev pub decreases-gather : goal.decreases-gather
decreases-gather l = 2 * nodes_in (formula l.e.now)

abbrev pub decreases-gather_two : goal.decreases-gather_two
decreases-gather_two l = 2 * (nodes_in (formula l.a.now) + nodes_in (formula l.b.now)) + 1

abbrev pub decreases-gather_each : goal.decreases-gather_each
decreases-gather_each l = 2 * nodes_in_each (formulas_in l.es.now) + 1

-- what is left leads to the answer
abbrev pub invariant-gather_each-loop-e : goal.invariant-gather_each-loop-e
invariant-gather_each-loop-e l =
    record {
      same : added (map tree_of l.ops) (past_trees_of_all (formulas_in (drop l.e-index l.es))) ≡ added (map tree_of l.fn.ops) (past_trees_of_all (formulas_in l.es));
      lighter : nodes_in_each (formulas_in (drop l.e-index l.es)) ≤ nodes_in_each (formulas_in l.es);
    }
