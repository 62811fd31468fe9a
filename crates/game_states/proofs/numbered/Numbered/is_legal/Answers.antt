use Rattle.std.proofs.Common.{◌≡◌, ℕ, ◌+◌, ◌<◌, ◌&&◌, true, false, drop, length, sym, ap, ◌∙◌, rules, arith}
use Rattle.std.specs.List.{list_all}
use Rattle.spec_model.specs.GameViews.{game_data}
use Rattle.spec_model.specs.Games.{outputs_of}
use Rattle.spec_model.specs.Steps.{assumptions_hold}
use Rattle.game_states.specs.Tables.{before_of, judged, spread}
use Rattle.game_states.proofs.TableLaws.{spread-map, spread_drop}
use Rattle.game_states.proofs.numbered.Numbered.is_legal.Goals as goal

pub loop-k-init : goal.loop-k-init
loop-k-init c =
    let self = c.args.self.now in
    let g = game_data self.game in
    let f = λ (k : ℕ). judged g (assumptions_hold g (before_of g c.args.before)) (c.args.base + k) in
    let e : spread f 0 (outputs_of g) ≡ spread f 0 self.outputs.items = ap (spread f 0) (sym self.outputs_listed) ∙ spread-map f (λ c. c.items) 0 self.outputs.items in
    sym (ap (list_all (λ b. b)) e)

pub loop-k-preserved : goal.loop-k-preserved
loop-k-preserved c =
    let self = c.args.self.now in
    let g = game_data self.game in
    let f = λ (k : ℕ). judged g (assumptions_hold g (before_of g c.args.before)) (c.args.base + k) in
    let below : c.loop-k.k < length self.outputs.items = omega (arith, c.loop-k-test.true, c.len-k-end.ensures) in
    let is : c.assumptions.result ≡ true = search rules in
    let one : f c.loop-k.k ≡ true = sym c.assumptions.ensures ∙ is in
    sym (ap (λ b. b && list_all (λ b. b) (spread f (c.loop-k.k + 1) (drop (c.loop-k.k + 1) self.outputs.items))) one) ∙ (sym (ap (list_all (λ b. b)) (spread_drop f c.loop-k.k self.outputs.items below)) ∙ c.loop-k.invariant)

pub returns-then-not-assumptions : goal.returns-then-not-assumptions
returns-then-not-assumptions c =
    let self = c.args.self.now in
    let g = game_data self.game in
    let f = λ (k : ℕ). judged g (assumptions_hold g (before_of g c.args.before)) (c.args.base + k) in
    let below : c.loop-k.k < length self.outputs.items = omega (arith, c.loop-k-test.true, c.len-k-end.ensures) in
    let is : c.assumptions.result ≡ false = search rules in
    let one : f c.loop-k.k ≡ false = sym c.assumptions.ensures ∙ is in
    sym (ap (λ b. b && list_all (λ b. b) (spread f (c.loop-k.k + 1) (drop (c.loop-k.k + 1) self.outputs.items))) one) ∙ (sym (ap (list_all (λ b. b)) (spread_drop f c.loop-k.k self.outputs.items below)) ∙ c.loop-k.invariant)
