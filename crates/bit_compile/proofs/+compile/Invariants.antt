use Rattle.std.proofs.Common.{◌≡◌, ◌≤◌, ◌+◌, ◌*◌, length, map, drop, take, vec_len, vec_capacity}
use Rattle.spec_model.specs.Views.{formula}
use Rattle.spec_model.specs.FormulaSizes.{nodes_in, nodes_in_each}
use Rattle.game_values.specs.Safety.{formulas_in}
use Rattle.bdd_bits.specs.Calls.{KeepsRoots}
use Rattle.bit_compile.specs.CaseRoots.{AddsCases}
use Rattle.bit_compile.specs.Known.{AreKnown}
use Rattle.bit_compile.specs.Scenes.{game_seen, entries_seen}
use Rattle.bit_compile.proofs.CyclesLemmas.{atoms_left, truth_case}
use Rattle.bit_compile.proofs.+compile.Given as goal

-- formulas become smaller, or fewer tables are left to be read
abbrev pub decreases-compiling::truth_root : goal.decreases-compiling::truth_root
decreases-compiling::truth_root l = 8 * (nodes_in (formula l.e.now) + atoms_left l.scene.now.hidden.now)

abbrev pub decreases-compiling::negated_root : goal.decreases-compiling::negated_root
decreases-compiling::negated_root l = 8 * (nodes_in (formula l.e.now) + atoms_left l.scene.now.hidden.now) + 1

abbrev pub decreases-compiling::implied_root : goal.decreases-compiling::implied_root
decreases-compiling::implied_root l = 8 * (nodes_in (formula l.a.now) + nodes_in (formula l.b.now) + atoms_left l.scene.now.hidden.now) + 2

abbrev pub decreases-compiling::or_truth : goal.decreases-compiling::or_truth
decreases-compiling::or_truth l = 8 * (nodes_in (formula l.e.now) + atoms_left l.scene.now.hidden.now) + 1

abbrev pub decreases-compiling::equivalent_root : goal.decreases-compiling::equivalent_root
decreases-compiling::equivalent_root l = 8 * (nodes_in (formula l.a.now) + nodes_in (formula l.b.now) + atoms_left l.scene.now.hidden.now) + 2

abbrev pub decreases-compiling::same_as_truth : goal.decreases-compiling::same_as_truth
decreases-compiling::same_as_truth l = 8 * (nodes_in (formula l.e.now) + atoms_left l.scene.now.hidden.now) + 1

abbrev pub decreases-compiling::truth_cases : goal.decreases-compiling::truth_cases
decreases-compiling::truth_cases l = 8 * (nodes_in_each (formulas_in l.es.now) + atoms_left l.scene.now.hidden.now) + 2

abbrev pub decreases-compiling::joined_root : goal.decreases-compiling::joined_root
decreases-compiling::joined_root l = 8 * (nodes_in_each (formulas_in l.es.now) + atoms_left l.scene.now.hidden.now) + 3

abbrev pub decreases-compiling::compared_root : goal.decreases-compiling::compared_root
decreases-compiling::compared_root l = 8 * (nodes_in (formula l.a.now) + nodes_in (formula l.b.now) + atoms_left l.scene.now.hidden.now) + 5

abbrev pub decreases-compiling::compared_by_cases : goal.decreases-compiling::compared_by_cases
decreases-compiling::compared_by_cases l = 8 * (nodes_in (formula l.a.now) + nodes_in (formula l.b.now) + atoms_left l.scene.now.hidden.now) + 4

abbrev pub decreases-compiling::compared_with : goal.decreases-compiling::compared_with
decreases-compiling::compared_with l = 8 * (nodes_in (formula l.b.now) + atoms_left l.scene.now.hidden.now) + 3

abbrev pub decreases-compiling::entry_root : goal.decreases-compiling::entry_root
decreases-compiling::entry_root l = 8 * atoms_left l.scene.now.hidden.now + 4

abbrev pub decreases-compiling::cases_of : goal.decreases-compiling::cases_of
decreases-compiling::cases_of l = 8 * (nodes_in (formula l.e.now) + atoms_left l.scene.now.hidden.now) + 2

abbrev pub decreases-compiling::both_cases : goal.decreases-compiling::both_cases
decreases-compiling::both_cases l = 8 * (nodes_in (formula l.e.now) + atoms_left l.scene.now.hidden.now) + 1

abbrev pub decreases-arithmetic::operated : goal.decreases-arithmetic::operated
decreases-arithmetic::operated l = 8 * (nodes_in (formula l.a.now) + nodes_in (formula l.b.now) + atoms_left l.scene.now.hidden.now) + 4

abbrev pub decreases-arithmetic::operated_with : goal.decreases-arithmetic::operated_with
decreases-arithmetic::operated_with l = 8 * (nodes_in (formula l.b.now) + atoms_left l.scene.now.hidden.now) + 3

abbrev pub decreases-arithmetic::remainders : goal.decreases-arithmetic::remainders
decreases-arithmetic::remainders l = 8 * (nodes_in (formula l.a.now) + atoms_left l.scene.now.hidden.now) + 3

-- the cases of the formulas so far
abbrev pub invariant-compiling::truth_cases-loop-e : goal.invariant-compiling::truth_cases-loop-e
invariant-compiling::truth_cases-loop-e l =
    record {
      made : AddsCases l.fn.diagrams l.diagrams l.cases.items (map (truth_case (game_seen l.scene) (entries_seen l.scene) l.at) (take l.e-index l.es));
      keeps : KeepsRoots l.fn.diagrams l.diagrams;
      known : AreKnown (game_seen l.scene) (formulas_in (drop l.e-index l.es));
      lighter : nodes_in_each (formulas_in (drop l.e-index l.es)) ≤ nodes_in_each (formulas_in l.es);
      counted : vec_len l.cases ≡ l.e-index;
      room : length l.es ≤ vec_capacity l.cases;
    }
