use Rattle.std.proofs.Common.{ℕ, ◌+◌, ◌<◌, ◌≤◌, ◌++◌, ◌∷◌, [], Some, option_map, map, drop, length, slice_get, sym, ap, ◌∙◌, arith}
use Rattle.std.proofs.lemmas.List.{map-append}
use Rattle.spec_model.specs.GameViews.{game_data}
use Rattle.spec_model.specs.Steps.{states_of}
use Rattle.game_states.specs.Seen.{seen, seen_at}
use Rattle.game_states.specs.Tables.{spread, moves_of}
use Rattle.game_states.proofs.LineLaws.{length-seen}
use Rattle.game_states.proofs.TableLaws.{spread-map, spread-is, spread_push, spread_past, append-nothing}
use Rattle.game_states.proofs.numbered.Numbered.later_moves.Goals as goal

pub moves_after-requires : goal.moves_after-requires
moves_after-requires c =
    let self = c.args.self.now in
    omega (arith, c.loop-from-test.true, c.len-from-end.ensures, length-seen (game_data self.game) self.seen.items self.states_seen)

pub loop-from-init : goal.loop-from-init
loop-from-init c =
    let self = c.args.self.now in
    let g = game_data self.game in
    let f = λ (k : ℕ). moves_of g (slice_get (states_of g) k) in
    ap (λ r. map (λ v. map (option_map (λ a. a.items)) v.items) r ++ spread f 0 self.seen.items) c.new-all.ensures.items

pub loop-from-preserved : goal.loop-from-preserved
loop-from-preserved c =
    let self = c.args.self.now in
    let g = game_data self.game in
    let f = λ (k : ℕ). moves_of g (slice_get (states_of g) k) in
    let below : c.loop-from.from < length self.seen.items = omega (arith, c.loop-from-test.true, c.len-from-end.ensures) in
    ap (λ r. map (λ v. map (option_map (λ a. a.items)) v.items) r ++ spread f (c.loop-from.from + 1) (drop (c.loop-from.from + 1) self.seen.items)) c.in_ok-push.ensures.items
    ∙ (ap (λ r. r ++ spread f (c.loop-from.from + 1) (drop (c.loop-from.from + 1) self.seen.items)) (map-append (λ v. map (option_map (λ a. a.items)) v.items) c.loop-from.all.items (c.in_ok-moves_after.field-0 ∷ []))
    ∙ spread_push f c.loop-from.from self.seen.items (map (λ v. map (option_map (λ a. a.items)) v.items) c.loop-from.all.items) _ (map (option_map (λ a. a.items)) c.in_ok-moves_after.field-0.items) below c.in_ok-moves_after.ensures c.loop-from.invariant)

pub returns : goal.returns
returns c =
    let self = c.args.self.now in
    let g = game_data self.game in
    let f = λ (k : ℕ). moves_of g (slice_get (states_of g) k) in
    let past : length self.seen.items ≤ c.loop-from.from = omega (arith, c.loop-from-test.false, c.len-from-end.ensures) in
    let made = map (λ v. map (option_map (λ a. a.items)) v.items) c.loop-from.all.items in
    sym (ap (λ r. made ++ r) (spread_past f c.loop-from.from c.loop-from.from self.seen.items past) ∙ append-nothing made)
    ∙ (c.loop-from.invariant
    ∙ (sym (spread-map f seen 0 self.seen.items)
    ∙ (ap (spread f 0) self.states_seen
    ∙ (spread-map f (seen_at g) 0 (states_of g)
    ∙ spread-is f (λ s. moves_of g (Some s)) (states_of g) (λ i s e. ap (moves_of g) e)))))
