use Rattle.std.proofs.Common.{◌≡◌, ℕ, ◌+◌, ◌<◌, ◌++◌, drop, length, sym, ap, ◌∙◌, arith}
use Rattle.spec_model.specs.GameViews.{game_data}
use Rattle.spec_model.specs.Games.{outputs_of}
use Rattle.game_states.specs.Tables.{spread, answer_at}
use Rattle.game_states.proofs.TableLaws.{spread-map, spread_push}
use Rattle.game_states.proofs.numbered.Numbered.answers.Goals as goal

pub loop-k-init : goal.loop-k-init
loop-k-init c =
    let self = c.args.self.now in
    let g = game_data self.game in
    let f = λ (k : ℕ). answer_at g c.args.before (c.args.base + k) in
    let e : spread f 0 (outputs_of g) ≡ spread f 0 self.outputs.items = ap (spread f 0) (sym self.outputs_listed) ∙ spread-map f (λ c. c.items) 0 self.outputs.items in
    ap (λ r. r ++ spread f 0 self.outputs.items) c.new-answers.ensures.items ∙ sym e

pub loop-k-preserved : goal.loop-k-preserved
loop-k-preserved c =
    let self = c.args.self.now in
    let g = game_data self.game in
    let f = λ (k : ℕ). answer_at g c.args.before (c.args.base + k) in
    let below : c.loop-k.k < length self.outputs.items = omega (arith, c.loop-k-test.true, c.len-k-end.ensures) in
    ap (λ r. r ++ spread f (c.loop-k.k + 1) (drop (c.loop-k.k + 1) self.outputs.items)) c.in_ok-push.ensures.items
    ∙ spread_push f c.loop-k.k self.outputs.items c.loop-k.answers.items _ c.answer.result below c.answer.ensures c.loop-k.invariant
