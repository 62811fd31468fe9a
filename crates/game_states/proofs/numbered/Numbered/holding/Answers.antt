use Rattle.std.proofs.Common.{◌+◌, ◌<◌, ◌≤◌, ◌++◌, not, drop, length, sym, ap, ◌∙◌, arith}
use Rattle.std.proofs.lemmas.Bool.{and_parts}
use Rattle.spec_model.specs.GameViews.{game_data}
use Rattle.spec_model.specs.Views.{formula}
use Rattle.spec_model.specs.Meaning.{holds_at}
use Rattle.spec_model.specs.Moves.{has_next}
use Rattle.spec_model.specs.Games.{State, step_reading}
use Rattle.spec_model.specs.Steps.{states_of}
use Rattle.spec_model.specs.WellMade.{scope_of, is_step_formula}
use Rattle.game_states.specs.Seen.{SeenData, seen, seen_at}
use Rattle.game_values.specs.Moments.{moment_data}
use Rattle.game_states.specs.Tables.{spread, judged}
use Rattle.game_states.proofs.LineLaws.{seen_here, state_fits, state_safe, state_value, judged_is}
use Rattle.game_states.proofs.TableLaws.{spread-map, spread-is, spread_push, spread_past, append-nothing}
use Rattle.game_states.proofs.numbered.Numbered.holding.Goals as goal

pub holds_between-requires : goal.holds_between-requires
holds_between-requires c =
    let self = c.args.self.now in
    let g = game_data self.game in
    let below : c.loop-at.at < length self.seen.items = omega (arith, c.loop-at-test.true, c.len-at-end.ensures) in
    let here = seen_here g self.seen.items self.states_seen c.loop-at.at c.index.result.now below c.index.ensures in
    let made = (and_parts (is_step_formula (scope_of g) (formula c.args.goal.now.holds)) (not (has_next (formula c.args.goal.now.holds))) c.requires).0 in
    state_safe g (moment_data c.index.result.now.moment) here.0 (formula c.args.goal.now.holds) (ap (λ (d : SeenData). d.moment) here.2) (state_fits g c.loop-at.at here.0 here.1) made

pub loop-at-init : goal.loop-at-init
loop-at-init c =
    let self = c.args.self.now in
    let g = game_data self.game in
    let f = judged g (λ s. holds_at (step_reading g s s) (formula c.args.goal.now.holds) 0) in
    ap (λ r. r ++ spread f 0 self.seen.items) c.new-bits.ensures.items

pub loop-at-preserved : goal.loop-at-preserved
loop-at-preserved c =
    let self = c.args.self.now in
    let g = game_data self.game in
    let test = λ (s : State). holds_at (step_reading g s s) (formula c.args.goal.now.holds) 0 in
    let f = judged g test in
    let below : c.loop-at.at < length self.seen.items = omega (arith, c.loop-at-test.true, c.len-at-end.ensures) in
    let here = seen_here g self.seen.items self.states_seen c.loop-at.at c.index.result.now below c.index.ensures in
    let is = c.holds_between.ensures ∙ (state_value g (moment_data c.index.result.now.moment) here.0 (formula c.args.goal.now.holds) (ap (λ (d : SeenData). d.moment) here.2) ∙ sym (judged_is g test c.loop-at.at here.0 here.1)) in
    ap (λ r. r ++ spread f (c.loop-at.at + 1) (drop (c.loop-at.at + 1) self.seen.items)) c.in_ok-push.ensures.items
    ∙ spread_push f c.loop-at.at self.seen.items c.loop-at.bits.items _ c.holds_between.result below is c.loop-at.invariant

pub returns : goal.returns
returns c =
    let self = c.args.self.now in
    let g = game_data self.game in
    let test = λ (s : State). holds_at (step_reading g s s) (formula c.args.goal.now.holds) 0 in
    let f = judged g test in
    let past : length self.seen.items ≤ c.loop-at.at = omega (arith, c.loop-at-test.false, c.len-at-end.ensures) in
    sym (ap (λ r. c.loop-at.bits.items ++ r) (spread_past f c.loop-at.at c.loop-at.at self.seen.items past) ∙ append-nothing c.loop-at.bits.items)
    ∙ (c.loop-at.invariant
    ∙ (sym (spread-map f seen 0 self.seen.items)
    ∙ (ap (spread f 0) self.states_seen
    ∙ (spread-map f (seen_at g) 0 (states_of g)
    ∙ spread-is f test (states_of g) (λ i s e. judged_is g test i s e)))))
