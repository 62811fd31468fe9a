use Rattle.std.proofs.Common.{◌≡◌, ℕ, List, true, Some, refl, ap, sym, subst, ◌∙◌}
use Rattle.spec_model.specs.Values.{Assignment}
use Rattle.spec_model.specs.Rules.{after}
use Rattle.spec_model.specs.Games.{GameData}
use Rattle.spec_model.specs.Steps.{is_input, reached}
use Rattle.spec_model.specs.FirstBroken.{first_broken}
use Rattle.gr1_law.specs.Choice.{IsChosen}
use Rattle.controller.specs.Objects.{game_of}
use Rattle.session_lines.specs.Shown.{inputs_of, outputs_of}
use Rattle.session.proofs.RunTalks.{input_fits, output_fits, legal_from}
use Rattle.session.proofs.Strategic.{fits_game, names_broken, reply_is_legal}
use Rattle.many_sessions.specs.Solo.{alive, over}
use Rattle.many_sessions.specs.Terms.{changed}
use Rattle.many_sessions.specs.Turns.{HasMoved}
use Rattle.many_sessions.proofs.Moving.{plays_for_it, is_kept, moved_to, seats_by_play, seats_by_state}
use Rattle.many_sessions.proofs.Serving.{room_moved, room_seated, serves_with}
use Rattle.many_sessions.proofs.turning.move_on.Goals as goal

pub legal-requires-clause-stands : goal.legal-requires-clause-stands
legal-requires-clause-stands g c =
    let some = c.requires.serves in
    let at = c.bring.ensures.plays some.0 some.1 some.2 some.3 some.4 some.5 some.6 in
    (at.z, some.1.layers, some.2, some.3, some.4, at.stands)

pub legal-requires-clause-input : goal.legal-requires-clause-input
legal-requires-clause-input g c =
    let some = c.requires.serves in
    let at = c.bring.ensures.plays some.0 some.1 some.2 some.3 some.4 some.5 some.6 in
    let game = game_of g.G.Regions.kept c.bring.new.play in
    ap (is_input game) c.deref.ensures.value ∙ fits_game some.0 game at.is_of c.args.many.now.input.items (inputs_of some.0) refl some.7

pub returns-in-Some : goal.returns-in-Some
returns-in-Some g c = λ s st h b m serves is fits.
    let kept = g.G.Regions.kept in
    let at = c.bring.ensures.plays s st h b m serves is in
    let x = c.args.many.now.input.items in
    let told = c.legal.ensures.first at.z st.layers h b m at.stands ∙ ap (first_broken (game_of kept c.bring.new.play) b) c.deref.ensures.value in
    record {
      broken = names_broken kept c.bring.new.play s st.rounds h (plays_for_it kept c.bring.new.play s st h b m at) x c.legal.result told ∙ c.in-Some.is;
      serves =
          serves_with kept c.args.many.now c.bring.new.play s st h b m at c.close.new.self serves.few (room_moved st.game c.args.many.now c.close.new.self serves.room c.close.ensures.keeps) c.args.number (over h)
          (c.close.ensures.seats st.game st.layers st.sessions h serves.seats);
    }

pub choose-requires-clause-stands : goal.choose-requires-clause-stands
choose-requires-clause-stands g c =
    let some = c.requires.serves in
    let at = c.bring.ensures.plays some.0 some.1 some.2 some.3 some.4 some.5 some.6 in
    (at.z, some.1.layers, some.2, some.3, some.4, at.stands)

pub choose-requires-clause-input : goal.choose-requires-clause-input
choose-requires-clause-input g c =
    let some = c.requires.serves in
    let at = c.bring.ensures.plays some.0 some.1 some.2 some.3 some.4 some.5 some.6 in
    fits_game some.0 (game_of g.G.Regions.kept c.bring.new.play) at.is_of c.args.many.now.input.items (inputs_of some.0) refl some.7

pub remember-requires-clause-seats : goal.remember-requires-clause-seats
remember-requires-clause-seats g c =
    let some = c.requires.serves in
    let at = c.bring.ensures.plays some.0 some.1 some.2 some.3 some.4 some.5 some.6 in
    let next = c.choose.ensures.chosen at.z some.1.layers some.2 some.3 some.4 at.stands in
    let on = moved_to g.G.Regions.kept c.bring.new.play some.0 some.1 some.2 some.3 some.4 at c.choose.new.play c.choose.ensures.play _ _ next.0 next.1 in
    (some.1.layers, some.1.sessions, seats_by_play g.G.Regions.kept c.choose.new.play some.0 some.1 _ _ _ on c.args.many.now.seats.items c.choose.new.many.seats.items some.1.sessions (ap (λ v. v.items) c.choose.ensures.keeps.seats) some.5.seats)

pub remember-requires-clause-stands : goal.remember-requires-clause-stands
remember-requires-clause-stands g c =
    let some = c.requires.serves in
    let at = c.bring.ensures.plays some.0 some.1 some.2 some.3 some.4 some.5 some.6 in
    let next = c.choose.ensures.chosen at.z some.1.layers some.2 some.3 some.4 at.stands in
    (at.z, some.1.layers, _, _, next.0, next.1.stands)

pub remember-requires-clause-started : goal.remember-requires-clause-started
remember-requires-clause-started g c =
    let some = c.requires.serves in
    let at = c.bring.ensures.plays some.0 some.1 some.2 some.3 some.4 some.5 some.6 in
    let next = c.choose.ensures.chosen at.z some.1.layers some.2 some.3 some.4 at.stands in
    next.1.stands.place.position.started

pub returns : goal.returns
returns g c = λ s st h b m serves is fits.
    let kept = g.G.Regions.kept in
    let at = c.bring.ensures.plays s st h b m serves is in
    let x = c.args.many.now.input.items in
    let y = c.choose.new.many.output.items in
    let told = c.legal.ensures.first at.z st.layers h b m at.stands ∙ ap (first_broken (game_of kept c.bring.new.play) b) c.deref.ensures.value in
    let unbroken = names_broken kept c.bring.new.play s st.rounds h (plays_for_it kept c.bring.new.play s st h b m at) x c.legal.result told ∙ c.in_default.is in
    let legal = legal_from s h x (input_fits s x (inputs_of s) refl fits) unbroken in
    let next = c.choose.ensures.chosen at.z st.layers h b m at.stands in
    let on = moved_to kept c.bring.new.play s st h b m at c.choose.new.play c.choose.ensures.play x y next.0 next.1 in
    let output = ap (λ v. v.items) c.remember.ensures.keeps.output in
    let room = room_moved st.game c.choose.new.many c.remember.new.self (room_seated st.game c.args.many.now c.choose.new.many serves.room c.choose.ensures.keeps) c.remember.ensures.keeps in
    let old_seats = seats_by_play kept c.choose.new.play s st (after h x y) (Some (reached st.game b x y)) next.0 on c.args.many.now.seats.items c.choose.new.many.seats.items st.sessions (ap (λ v. v.items) c.choose.ensures.keeps.seats) serves.seats in
    let seats = seats_by_state kept c.choose.new.play s st (after h x y) (Some (reached st.game b x y)) next.0 on c.remember.new.self.seats.items (changed st.sessions c.args.number (alive (after h x y) (Some (reached st.game b x y)) next.0))
    (c.remember.ensures.seats on.z st.layers (after h x y) (Some (reached st.game b x y)) next.0 on.stands st.sessions old_seats) in
    subst (λ (y : Assignment). HasMoved kept s st c.args.number h b m x y c.remember.new.self c.choose.new.play) (sym output)
    (record {
      unbroken = unbroken;
      next = next.0;
      chosen = subst (λ (g : GameData). IsChosen g st.layers b m x y next.0) (sym at.game) next.1.chosen;
      play = is_kept kept c.choose.new.play s st (after h x y) (Some (reached st.game b x y)) next.0 on;
      fits = output_fits s h x y (outputs_of s) refl (reply_is_legal kept c.bring.new.play s st.rounds h (plays_for_it kept c.bring.new.play s st h b m at) x legal y next.0 next.1.chosen);
      serves =
          serves_with kept c.args.many.now c.choose.new.play s st (after h x y) (Some (reached st.game b x y)) next.0 on c.remember.new.self serves.few room c.args.number (alive (after h x y) (Some (reached st.game b x y)) next.0) seats;
    })
