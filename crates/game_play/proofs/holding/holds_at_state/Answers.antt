use Rattle.std.proofs.Common.{◌≡◌, ◌∙◌, ◌&&◌, not, sym, ap}
use Rattle.std.proofs.lemmas.Bool.{and_parts}
use Rattle.spec_model.specs.GameViews.{game_data}
use Rattle.spec_model.specs.Views.{formula}
use Rattle.spec_model.specs.Meaning.{holds_at}
use Rattle.spec_model.specs.Moves.{has_next}
use Rattle.spec_model.specs.Games.{step_reading}
use Rattle.spec_model.specs.WellMade.{is_step_formula, scope_of}
use Rattle.game_values.proofs.Safe.{step_safe}
use Rattle.game_play.specs.Judged.{made_reading}
use Rattle.game_play.proofs.SeenMoves.{made_typed}
use Rattle.game_play.proofs.holding.holds_at_state.Goals as goal

pub made_position-made-requires-clause-state : goal.made_position-made-requires-clause-state
made_position-made-requires-clause-state c =
    let state = c.requires.state in
    (state.0, state.1, c.parts.ensures state.0 state.1 state.2)

pub holds-requires : goal.holds-requires
holds-requires c =
    let g = game_data c.args.game.now in
    let e = formula c.args.goal.now.holds in
    let state = c.requires.state in
    let m = c.made_position-made.result in
    let step = (and_parts (is_step_formula (scope_of g) e) (not (has_next e)) c.requires.goal).0 in
    step_safe (scope_of g) (made_reading m) (made_typed g state.0 state.1 m (c.made_position-made.ensures state.0 state.1 (c.parts.ensures state.0 state.1 state.2))) e step

pub returns : goal.returns
returns c = λ s inside lists.
    let g = game_data c.args.game.now in
    let e = formula c.args.goal.now.holds in
    c.holds.ensures
    ∙ (ap (λ r. holds_at r e 0) (c.made_position-made.ensures s inside (c.parts.ensures s inside lists))
    ∙ sym (ap (λ b. b && holds_at (step_reading g s s) e 0) inside))
