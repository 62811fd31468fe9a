use Rattle.std.proofs.Common.{◌≡◌, Ok, true, drop, map, take}
use Rattle.std.specs.List.{list_all}
use Rattle.spec_model.specs.WellMade.{scope_of, is_step_formula}
use Rattle.bdd_sets.specs.Lists.{MakesList}
use Rattle.line_functions.specs.Functions.{line_function}
use Rattle.line_functions.specs.Asking.{game_seen, formulas_seen}
use Rattle.line_functions.proofs.making.roots_of.Given as goal

-- the diagrams of the lines so far, and what the rest are
abbrev pub invariant-loop-e : goal.invariant-loop-e
invariant-loop-e l =
    record {
      made : MakesList l.fn.diagrams l.diagrams (Ok l.roots) (map (line_function (game_seen l.scene)) (formulas_seen (take l.e-index l.lines)));
      formulas : list_all (is_step_formula (scope_of (game_seen l.scene))) (formulas_seen (drop l.e-index l.lines)) ≡ true;
    }
