use Rattle.std.proofs.Common.{◌≡◌, ◌∙◌, Some, true, false, sym, ap, subst}
use Rattle.spec_model.specs.Rules.{after}
use Rattle.spec_model.specs.Games.{GameData}
use Rattle.spec_model.specs.Steps.{is_input, legal_input, reached}
use Rattle.regions.specs.Rules.{output_count}
use Rattle.strategy_parts.specs.Counts.{HasFewGoals, value_count}
use Rattle.controller.specs.Objects.{game_of}
use Rattle.strategy_check.proofs.Moves.{holds_then, plays_on, moved_to, none_if_not_some, none_not_some}
use Rattle.strategy_check.proofs.moving.choose.Goals as goal

pub legal-requires-clause-stands : goal.legal-requires-clause-stands
legal-requires-clause-stands g c =
    let f = c.requires.from in
    (f.1, f.2, f.6, f.7, f.8, c.stand.ensures.stands f.0 f.1 f.2 f.3 f.6 f.7 f.8 f.9)

pub legal-requires-clause-input : goal.legal-requires-clause-input
legal-requires-clause-input g c =
    let f = c.requires.from in
    subst (λ (d : GameData). is_input d c.args.input.now ≡ true) (sym (c.stand.ensures.keeps.game.game ∙ f.3.game)) f.5

pub advance-requires-clause-stands : goal.advance-requires-clause-stands
advance-requires-clause-stands g c =
    let f = c.requires.from in
    (f.1, f.2, f.6, f.7, f.8, c.stand.ensures.stands f.0 f.1 f.2 f.3 f.6 f.7 f.8 f.9)

pub advance-requires-clause-input : goal.advance-requires-clause-input
advance-requires-clause-input g c =
    let f = c.requires.from in
    subst (λ (d : GameData). is_input d c.args.input.now ≡ true) (sym (c.stand.ensures.keeps.game.game ∙ f.3.game)) f.5

pub advance-requires-clause-legal : goal.advance-requires-clause-legal
advance-requires-clause-legal g c = λ z l h b m st. sym (c.legal.ensures.none z l h b m st) ∙ none_if_not_some c.legal.result (sym c.is_some.ensures ∙ c.if-is_some.false)

pub advance-requires-clause-room : goal.advance-requires-clause-room
advance-requires-clause-room g c = c.requires.output ∙ ap output_count (sym c.stand.ensures.keeps.game.game)

pub seen-spot-requires-clause-stands : goal.seen-spot-requires-clause-stands
seen-spot-requires-clause-stands g c =
    let f = c.requires.from in
    let st = c.stand.ensures.stands f.0 f.1 f.2 f.3 f.6 f.7 f.8 f.9 in
    let on = c.advance.ensures.chosen f.1 f.2 f.6 f.7 f.8 st in
    (f.1, f.2, _, _, on.0, on.1.stands)

pub seen-spot-requires-clause-started : goal.seen-spot-requires-clause-started
seen-spot-requires-clause-started g c =
    let f = c.requires.from in
    let st = c.stand.ensures.stands f.0 f.1 f.2 f.3 f.6 f.7 f.8 f.9 in
    (c.advance.ensures.chosen f.1 f.2 f.6 f.7 f.8 st).1.stands.place.position.started

pub seen-spot-requires-clause-few : goal.seen-spot-requires-clause-few
seen-spot-requires-clause-few g c =
    let f = c.requires.from in
    subst HasFewGoals (sym (c.advance.ensures.keeps.game.game ∙ (c.stand.ensures.keeps.game.game ∙ f.3.game))) f.4

pub seen-spot-requires-clause-room : goal.seen-spot-requires-clause-room
seen-spot-requires-clause-room g c = c.requires.state ∙ ap value_count (sym (c.advance.ensures.keeps.game.game ∙ c.stand.ensures.keeps.game.game))

pub returns-then-is_some-clause-answers : goal.returns-then-is_some-clause-answers
returns-then-is_some-clause-answers g c = λ d z l p h b m is.
    let kept = g.G.Regions.kept in
    let old = c.args.play.now in
    let here = c.stand.new.play in
    let st = c.stand.ensures.stands d z l p h b m is in
    let legal = sym (c.legal.ensures.none z l h b m st) ∙ none_not_some c.legal.result (sym c.is_some.ensures ∙ c.if-is_some.true) in
    (subst (λ (d : GameData). legal_input d b c.args.input.now ≡ false) (c.stand.ensures.keeps.game.game ∙ p.game) legal, plays_on kept old here d z l p c.stand.ensures.keeps h b m st)

pub returns-clause-answers : goal.returns-clause-answers
returns-clause-answers g c = λ d z l p h b m is.
    let kept = g.G.Regions.kept in
    let old = c.args.play.now in
    let here = c.stand.new.play in
    let moved = c.advance.new.play in
    let x = c.args.input.now in
    let y = c.advance.new.out.items in
    let st = c.stand.ensures.stands d z l p h b m is in
    let game = c.stand.ensures.keeps.game.game ∙ p.game in
    let legal = sym (c.legal.ensures.none z l h b m st) ∙ none_if_not_some c.legal.result (sym c.is_some.ensures ∙ c.if-is_some.false) in
    let on = c.advance.ensures.chosen z l h b m st in
    let to = reached (game_of kept here) b x y in (
      moved_to kept here moved d game z l h b m x y on.0 legal on.1 c.seen-spot.new.state.items c.seen-spot.result (c.seen-spot.ensures.ends z l (after h x y) (Some to) on.0 on.1.stands),
      plays_on kept old moved d z l p (holds_then kept old here moved c.stand.ensures.keeps c.advance.ensures.keeps) (after h x y) (Some to) on.0 on.1.stands,
    )

pub returns-clause-keeps : goal.returns-clause-keeps
returns-clause-keeps g c = holds_then g.G.Regions.kept c.args.play.now c.stand.new.play c.advance.new.play c.stand.ensures.keeps c.advance.ensures.keeps
