use Rattle.std.proofs.Common.{ℕ, ap, map}
use Rattle.spec_model.specs.Syntax.{Formula}
use Rattle.spec_model.specs.Games.{GoalData}
use Rattle.spec_model.specs.GameViews.{goal_data}
use Rattle.bdd_sets.specs.LineScenes.{line_data}
use Rattle.line_functions.specs.Asking.{formulas_seen}
use Rattle.line_functions.proofs.FormulaLemmas.{in_order}
use Rattle.line_functions.proofs.formulas.formulas_of.Goals as goal

pub returns : goal.returns
returns c =
    rw (c.deref.ensures.value, c.deref-2.ensures.value, c.deref-3.ensures.value, c.deref-4.ensures.value, c.deref-5.ensures.value, c.deref-6.ensures.value) at
    (in_order (λ (l : ℕ × Formula). l.1) (λ (x : GoalData). x.holds) (line_data c.deref.result.now) (line_data c.deref-2.result.now) (line_data c.deref-3.result.now) (line_data c.deref-4.result.now) (map goal_data c.deref-5.result.now) (map goal_data c.deref-6.result.now)
    _ _ _ _ _ _ _ (ap formulas_seen c.new-all.ensures.items) c.in_ok-add_lines.ensures c.in_ok-add_lines-2.ensures c.in_ok-add_lines-3.ensures c.in_ok-add_lines-4.ensures
    c.in_ok-add_goals.ensures c.in_ok-add_goals-2.ensures)
