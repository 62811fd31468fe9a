use Rattle.std.proofs.Common.{◌≡◌, ◌++◌, ◌+◌, List, length, sym, ap, ◌∙◌}
use Rattle.spec_model.specs.GameViews.{game_data}
use Rattle.spec_model.specs.declared.value.Value.{Value}
use Rattle.spec_model.specs.Steps.{reached}
use Rattle.strategy_parts.proofs.Placing.{sized, listed_next}
use Rattle.strategy_parts.proofs.position.Position.go_on.Goals as goal

pub write_state-requires : goal.write_state-requires
write_state-requires c =
    let h = c.requires.here in
    let e = sized (game_data c.args.game.now) c.args.self.now h.0 h.1 c.args.input.now c.args.output.now h.2 in
    e ∙ ap (λ (vs : List Value). length vs + (length c.args.input.now + length c.args.output.now)) (sym c.deref.ensures.value)

pub arrive-requires-clause-state : goal.arrive-requires-clause-state
arrive-requires-clause-state c =
    let h = c.requires.here in
    let g = game_data c.args.game.now in
    let x = c.args.input.now in
    let y = c.args.output.now in
    (reached g h.0 x y, h.2.state, listed_next g c.args.self.now h.0 h.1 x y h.2 ∙ (ap (λ (vs : List Value). vs ++ (x ++ y)) (sym c.deref.ensures.value) ∙ sym c.write_state.ensures))

pub returns : goal.returns
returns c = λ b here closed.
    let g = game_data c.args.game.now in
    let x = c.args.input.now in
    let y = c.args.output.now in
    c.arrive.ensures (reached g b x y) closed.state (listed_next g c.args.self.now b here x y closed ∙ (ap (λ (vs : List Value). vs ++ (x ++ y)) (sym c.deref.ensures.value) ∙ sym c.write_state.ensures))
