use Rattle.std.proofs.Common.{◌≡◌, ◌∙◌, true, List, ap, subst, sym}
use Rattle.std.specs.List.{list_all}
use Rattle.spec_model.specs.GameViews.{game_data}
use Rattle.spec_model.specs.Syntax.{Formula}
use Rattle.spec_model.specs.WellMade.{scope_of, is_step_formula}
use Rattle.line_functions.specs.Asking.{formulas_seen}
use Rattle.line_functions.proofs.FormulaLemmas.{formulas_made}
use Rattle.line_functions.proofs.making.line_functions.Goals as goal

pub roots_of-requires-clause-scene : goal.roots_of-requires-clause-scene
roots_of-requires-clause-scene c = record { made = c.requires.made; codes = c.requires.codes; marks = c.in-Ok.ensures }

pub roots_of-requires-clause-formulas : goal.roots_of-requires-clause-formulas
roots_of-requires-clause-formulas c =
    let g = game_data c.args.game.now in
    subst (λ (es : List Formula). list_all (is_step_formula (scope_of g)) es ≡ true) (sym (ap formulas_seen c.deref.ensures.value ∙ c.in-Ok-formulas_of.ensures)) (formulas_made g c.requires.made)
