use Rattle.std.proofs.Common.{◌≡◌, ◌+◌, ◌-◌, ◌*◌, ◌++◌, false, length, map, take, drop}
use Rattle.spec_model.specs.Syntax.{Variable, listed}
use Rattle.spec_model.specs.Views.{formula as formula_data}
use Rattle.spectra_resolved.specs.Chained.{chained, trees}
use Rattle.spectra_resolved.specs.Views.{resolved_data, link_data, form_data}
use Rattle.spectra_resolved.specs.Resolved.{Form}
use Rattle.spectra_copies.specs.Nodes.{tree_nodes, form_nodes, each_nodes}
use Rattle.spectra_judge.specs.KindViews.{known_data}
use Rattle.spectra_cases.specs.Formulas.{each_formula, numbers_below}
use Rattle.spectra_cases.specs.Choices.{choices, form_choices, equation_of, built}
use Rattle.spectra_cases.specs.Wholes.{whole_choices, whole_case}
use Rattle.spectra_cases.proofs.Measures.{rest, whole_nodes, spare}
use Rattle.spectra_cases.proofs.Cases.{case_of}
use Rattle.spectra_cases.proofs.making.+making.Given as goal

-- the cases of the numbers so far
abbrev pub invariant-cases-loop-number : goal.invariant-cases-loop-number
invariant-cases-loop-number l =
    record {
      picks : l.picks.items ≡ l.initial.picks.items;
      cases : map formula_data l.all.items ≡ map (whole_case (known_data l.by.known) l.by.params l.whole l.initial.picks.items) (numbers_below 0 l.number);
    }

abbrev pub invariant-here-loop-number : goal.invariant-here-loop-number
invariant-here-loop-number l =
    map formula_data l.all.items ≡ map (case_of (equation_of (known_data l.by.known) l.by.params false (resolved_data l.t)) Variable l.first) (numbers_below 0 l.number)

-- what is built of the operators so far
abbrev pub invariant-built_row-loop-link : goal.invariant-built_row-loop-link
invariant-built_row-loop-link l =
    record {
      made : formula_data l.made ≡ built (known_data l.by.known) l.by.params (chained (resolved_data l.head) (map link_data (take (l.before + l.link-index) l.links))) (drop l.fn.next l.picks);
      next : l.next ≡ l.fn.next + length (choices (known_data l.by.known) (chained (resolved_data l.head) (map link_data (take (l.before + l.link-index) l.links))) false);
    }

abbrev pub invariant-formulas-loop-t : goal.invariant-formulas-loop-t
invariant-formulas-loop-t l =
    map formula_data l.all.items ++ listed (each_formula (known_data l.by.known) l.by.params (trees (map resolved_data (drop l.t-index l.ts))))
    ≡ listed (each_formula (known_data l.by.known) l.by.params (trees (map resolved_data l.ts)))

abbrev pub decreases-operated : goal.decreases-operated
decreases-operated l = 16 * (tree_nodes (chained (resolved_data l.head.now) (map link_data l.before.now)) + tree_nodes (resolved_data l.last.now.second) + 1) + 1

abbrev pub decreases-built_front : goal.decreases-built_front
decreases-built_front l = 16 * rest (known_data l.by.now.known) (chained (resolved_data l.head.now) (map link_data l.links.now)) + 2 + spare l.links.now

abbrev pub decreases-built_row : goal.decreases-built_row
decreases-built_row l = 16 * rest (known_data l.by.now.known) (chained (resolved_data l.head.now) (map link_data l.links.now)) + 3 + spare l.links.now

abbrev pub decreases-built : goal.decreases-built
decreases-built l = 16 * rest (known_data l.by.now.known) (resolved_data l.t.now) + 4

abbrev pub decreases-built_shape : goal.decreases-built_shape
decreases-built_shape l = 16 * (form_nodes (form_data l.shape.now) - length (form_choices (known_data l.by.now.known) (form_data l.shape.now) false)) + 3

abbrev pub decreases-built_index : goal.decreases-built_index
decreases-built_index l =
    16 * (form_nodes (Form.Index l.first l.count (resolved_data l.t.now)) - length (form_choices (known_data l.by.now.known) (Form.Index l.first l.count (resolved_data l.t.now)) false)) + 2

abbrev pub decreases-here : goal.decreases-here
decreases-here l = 16 * tree_nodes (resolved_data l.t.now) + 10

abbrev pub decreases-picked : goal.decreases-picked
decreases-picked l = 16 * (whole_nodes (known_data l.by.now.known) l.whole - length (whole_choices (known_data l.by.now.known) l.whole)) + 7

abbrev pub decreases-case : goal.decreases-case
decreases-case l = 16 * (whole_nodes (known_data l.by.now.known) l.whole - length l.picks.now.items) + 7

abbrev pub decreases-cases : goal.decreases-cases
decreases-cases l = 16 * (whole_nodes (known_data l.by.now.known) l.whole - length l.picks.now.items) + 8

abbrev pub decreases-made : goal.decreases-made
decreases-made l = 16 * whole_nodes (known_data l.by.now.known) l.whole + 9

abbrev pub decreases-formula : goal.decreases-formula
decreases-formula l = 16 * tree_nodes (resolved_data l.t.now) + 11

abbrev pub decreases-formulas : goal.decreases-formulas
decreases-formulas l = 16 * each_nodes (trees (map resolved_data l.ts.now)) + 12

abbrev pub decreases-negation : goal.decreases-negation
decreases-negation l = 16 * tree_nodes (resolved_data l.t.now) + 13

abbrev pub decreases-conjunction : goal.decreases-conjunction
decreases-conjunction l = 16 * each_nodes (trees (map resolved_data l.ts.now)) + 13

abbrev pub decreases-disjunction : goal.decreases-disjunction
decreases-disjunction l = 16 * each_nodes (trees (map resolved_data l.ts.now)) + 13

abbrev pub decreases-chain : goal.decreases-chain
decreases-chain l = 16 * tree_nodes (chained (resolved_data l.head.now) (map link_data l.links.now)) + 10

abbrev pub decreases-front : goal.decreases-front
decreases-front l = 16 * tree_nodes (chained (resolved_data l.head.now) (map link_data l.links.now)) + 14
