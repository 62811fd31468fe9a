use Rattle.std.proofs.Common.{◌≡◌, ℕ, ◌-◌, ◌∙◌, map, get_or, sym, ap}
use Rattle.spec_model.specs.GameViews.{game_data, goal_data}
use Rattle.spec_model.specs.Sets.{StateSet, holding, no_states}
use Rattle.spec_model.specs.WellMade.{is_state_formula, scope_of}
use Rattle.gr1_law.specs.Layers.{or_all_states}
use Rattle.table_check.proofs.Marking.{goal_there, set_there}
use Rattle.table_check.proofs.held.holds_by_number.Goals as goal

pub holds_at_state-requires-clause-goal : goal.holds_at_state-requires-clause-goal
holds_at_state-requires-clause-goal c =
    goal_there (λ goal. is_state_formula (scope_of (game_data c.args.game.now)) goal.holds) c.args.goals.now _ c.index-goals-place.result c.requires.goals c.if-place-goals.true c.index-goals-place.is

pub returns-then-place-goals : goal.returns-then-place-goals
returns-then-place-goals c = λ s inside lists.
    let g = game_data c.args.game.now in
    let goals = c.args.goals.now in
    c.holds_at_state.ensures s inside lists
    ∙ (ap (λ (set : StateSet). set s) (sym (set_there g goals c.saturating_sub-place.result c.index-goals-place.result c.if-place-goals.true c.index-goals-place.is))
    ∙ ap (λ (n : ℕ). get_or (or_all_states g (map (λ goal. holding g goal.holds) (map goal_data goals))) n no_states s) c.saturating_sub-place.ensures)
