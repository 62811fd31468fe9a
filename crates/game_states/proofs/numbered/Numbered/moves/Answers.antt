use Rattle.std.proofs.Common.{◌≡◌, ℕ, ◌+◌, ◌<◌, ◌++◌, ◌∷◌, [], option_map, map, drop, length, sym, ap, ◌∙◌, arith}
use Rattle.std.proofs.lemmas.List.{map-append}
use Rattle.spec_model.specs.GameViews.{game_data}
use Rattle.spec_model.specs.Games.{inputs_of}
use Rattle.game_states.specs.Numbers.{number_at}
use Rattle.game_states.specs.Tables.{spread, input_moves_from}
use Rattle.game_states.proofs.TableLaws.{spread-map, spread_push}
use Rattle.game_states.proofs.numbered.Numbered.moves.Goals as goal

pub loop-i-init : goal.loop-i-init
loop-i-init c =
    let self = c.args.self.now in
    let g = game_data self.game in
    let f = λ (i : ℕ). input_moves_from g c.args.before (number_at g c.args.place i 0) in
    let e : spread f 0 (inputs_of g) ≡ spread f 0 self.inputs.items = ap (spread f 0) (sym self.inputs_listed) ∙ spread-map f (λ c. c.items) 0 self.inputs.items in
    ap (λ r. map (option_map (λ a. a.items)) r ++ spread f 0 self.inputs.items) c.new-moves.ensures.items ∙ sym e

pub loop-i-preserved : goal.loop-i-preserved
loop-i-preserved c =
    let self = c.args.self.now in
    let g = game_data self.game in
    let f = λ (i : ℕ). input_moves_from g c.args.before (number_at g c.args.place i 0) in
    let below : c.loop-i.i < length self.inputs.items = omega (arith, c.loop-i-test.true, c.len-i-end.ensures) in
    let made = c.in_ok-input_moves.ensures ∙ ap (input_moves_from g c.args.before) c.base-base.ensures.number in
    ap (λ r. map (option_map (λ a. a.items)) r ++ spread f (c.loop-i.i + 1) (drop (c.loop-i.i + 1) self.inputs.items)) c.in_ok-push.ensures.items
    ∙ (ap (λ r. r ++ spread f (c.loop-i.i + 1) (drop (c.loop-i.i + 1) self.inputs.items)) (map-append (option_map (λ a. a.items)) c.loop-i.moves.items (c.in_ok-input_moves.field-0 ∷ []))
    ∙ spread_push f c.loop-i.i self.inputs.items (map (option_map (λ a. a.items)) c.loop-i.moves.items) _ (option_map (λ a. a.items) c.in_ok-input_moves.field-0) below made c.loop-i.invariant)
