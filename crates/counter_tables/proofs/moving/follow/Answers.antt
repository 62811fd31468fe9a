use Rattle.std.proofs.Common.{◌≡◌, ◌∙◌, ◌++◌, ◌∷◌, [], Some, true, false, refl, sym, ap, subst}
use Rattle.spec_model.specs.Rules.{after}
use Rattle.spec_model.specs.Games.{GameData}
use Rattle.spec_model.specs.Steps.{is_output, reached}
use Rattle.regions.specs.Rules.{input_count}
use Rattle.gr1_law.specs.Counter.{note_of}
use Rattle.strategy_parts.specs.Counts.{HasFewGoals, value_count}
use Rattle.counterstrategy.specs.Objects.{game_of, given_by}
use Rattle.counter_tables.proofs.Moves.{holds_then, judged, moved_to, plays_as, none_if_not_some, none_not_some}
use Rattle.counter_tables.proofs.moving.follow.Goals as goal

pub stand-requires-clause-from : goal.stand-requires-clause-from
stand-requires-clause-from g c = let f = c.requires.from in (f.0, f.1, f.2, f.5, f.6)

pub stand-requires-clause-room : goal.stand-requires-clause-room
stand-requires-clause-room g c = c.requires.input

pub legal-requires-clause-stands : goal.legal-requires-clause-stands
legal-requires-clause-stands g c =
    let f = c.requires.from in
    let p = f.5 in
    (f.1, p.run, p.notes, p.before, p.memory, (c.stand.ensures.gives f.0 f.1 f.2 p f.6).stands)

pub legal-requires-clause-given : goal.legal-requires-clause-given
legal-requires-clause-given g c = let f = c.requires.from in (c.stand.ensures.gives f.0 f.1 f.2 f.5 f.6).has_given

pub legal-requires-clause-output : goal.legal-requires-clause-output
legal-requires-clause-output g c =
    let f = c.requires.from in
    subst (λ (d : GameData). is_output d c.args.output.now ≡ true) (sym (c.stand.ensures.keeps.game.game ∙ f.2.game)) f.4

pub complete-requires-clause-stands : goal.complete-requires-clause-stands
complete-requires-clause-stands g c =
    let f = c.requires.from in
    let p = f.5 in
    (f.1, p.run, p.notes, p.before, p.memory, (c.stand.ensures.gives f.0 f.1 f.2 p f.6).stands)

pub complete-requires-clause-given : goal.complete-requires-clause-given
complete-requires-clause-given g c = let f = c.requires.from in (c.stand.ensures.gives f.0 f.1 f.2 f.5 f.6).has_given

pub complete-requires-clause-output : goal.complete-requires-clause-output
complete-requires-clause-output g c =
    let f = c.requires.from in
    subst (λ (d : GameData). is_output d c.args.output.now ≡ true) (sym (c.stand.ensures.keeps.game.game ∙ f.2.game)) f.4

pub complete-requires-clause-legal : goal.complete-requires-clause-legal
complete-requires-clause-legal g c = λ e h notes b k st. sym (c.legal.ensures.none e h notes b k st) ∙ none_if_not_some c.legal.result (sym c.is_some.ensures ∙ c.if-is_some.false)

pub complete-requires-clause-room : goal.complete-requires-clause-room
complete-requires-clause-room g c = c.stand.ensures.room ∙ (c.requires.input ∙ ap input_count (sym c.stand.ensures.keeps.game.game))

pub seen-spot-requires-clause-stands : goal.seen-spot-requires-clause-stands
seen-spot-requires-clause-stands g c =
    let f = c.requires.from in
    let p = f.5 in
    let on = c.complete.ensures.answered f.1 p.run p.notes p.before p.memory (c.stand.ensures.gives f.0 f.1 f.2 p f.6).stands in
    (f.1, _, _, _, on.1, on.2.gives.stands)

pub seen-spot-requires-clause-given : goal.seen-spot-requires-clause-given
seen-spot-requires-clause-given g c =
    let f = c.requires.from in
    let p = f.5 in
    (c.complete.ensures.answered f.1 p.run p.notes p.before p.memory (c.stand.ensures.gives f.0 f.1 f.2 p f.6).stands).2.gives.has_given

pub seen-spot-requires-clause-completed : goal.seen-spot-requires-clause-completed
seen-spot-requires-clause-completed g c =
    let f = c.requires.from in
    let p = f.5 in
    (c.complete.ensures.answered f.1 p.run p.notes p.before p.memory (c.stand.ensures.gives f.0 f.1 f.2 p f.6).stands).2.gives.stands.place.position.started

pub seen-spot-requires-clause-few : goal.seen-spot-requires-clause-few
seen-spot-requires-clause-few g c =
    let f = c.requires.from in
    subst HasFewGoals (sym (c.complete.ensures.keeps.1.game.game ∙ (c.stand.ensures.keeps.game.game ∙ f.2.game))) f.3

pub seen-spot-requires-clause-room : goal.seen-spot-requires-clause-room
seen-spot-requires-clause-room g c = c.requires.state ∙ ap value_count (sym (c.complete.ensures.keeps.1.game.game ∙ c.stand.ensures.keeps.game.game))

pub returns-then-is_some-clause-answers : goal.returns-then-is_some-clause-answers
returns-then-is_some-clause-answers g c = λ d e plays p is.
    let kept = g.G.Regions.kept in
    let here = c.stand.new.play in
    let gives = c.stand.ensures.gives d e plays p is in
    let game = c.stand.ensures.keeps.game.game ∙ plays.game in
    let none = none_not_some c.legal.result (sym c.is_some.ensures ∙ c.if-is_some.true) in (
      judged (game_of kept here) d game p.before (given_by here) p.input gives.input c.args.output.now _ false (c.legal.ensures.none e p.run p.notes p.before p.memory gives.stands) none,
      plays_as kept here d game e p.run p.notes p.before p.memory gives.stands,
    )

pub returns-then-is_some-clause-room : goal.returns-then-is_some-clause-room
returns-then-is_some-clause-room g c = (c.stand.ensures.room, refl)

pub returns-then-is_some-clause-keeps : goal.returns-then-is_some-clause-keeps
returns-then-is_some-clause-keeps g c = c.stand.ensures.keeps

pub returns-clause-answers : goal.returns-clause-answers
returns-clause-answers g c = λ d e plays p is.
    let kept = g.G.Regions.kept in
    let here = c.stand.new.play in
    let moved = c.complete.new.play in
    let y = c.args.output.now in
    let gives = c.stand.ensures.gives d e plays p is in
    let game = c.stand.ensures.keeps.game.game ∙ plays.game in
    let now = c.complete.ensures.keeps.1.game.game ∙ game in
    let none = none_if_not_some c.legal.result (sym c.is_some.ensures ∙ c.if-is_some.false) in
    let legal = judged (game_of kept here) d game p.before (given_by here) p.input gives.input y _ true (c.legal.ensures.none e p.run p.notes p.before p.memory gives.stands) none in
    let on = c.complete.ensures.answered e p.run p.notes p.before p.memory gives.stands in
    let x = given_by here in
    let to = reached (game_of kept here) p.before x y in
    let notes = p.notes ++ note_of (game_of kept here) on.1 ∷ [] in (
      moved_to kept here moved d game now e p gives y legal on.0 on.1 c.complete.new.input.items on.2 c.seen-spot.new.state.items c.seen-spot.result (c.seen-spot.ensures.ends e (after p.run x y) notes (Some to) on.1 on.2.gives.stands),
      plays_as kept moved d now e (after p.run x y) notes (Some to) on.1 on.2.gives.stands,
    )

pub returns-clause-room : goal.returns-clause-room
returns-clause-room g c = (c.complete.ensures.keeps.0 ∙ c.stand.ensures.room, c.seen-spot.ensures.room)

pub returns-clause-keeps : goal.returns-clause-keeps
returns-clause-keeps g c = holds_then g.G.Regions.kept c.args.play.now c.stand.new.play c.complete.new.play c.stand.ensures.keeps c.complete.ensures.keeps.1
