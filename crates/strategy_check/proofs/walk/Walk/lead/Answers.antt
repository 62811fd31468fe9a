use Rattle.std.proofs.Common.{◌≡◌, ◌∙◌, true, List, Option, refl, sym, ap, subst}
use Rattle.spec_model.specs.declared.value.Value.{Value}
use Rattle.spec_model.specs.Games.{GameData}
use Rattle.spec_model.specs.Steps.{is_input}
use Rattle.regions.specs.Rules.{output_count}
use Rattle.strategy_parts.specs.Counts.{value_count}
use Rattle.strategy_check.specs.Seats.{SeatData, seats_of, seat_of, IsAbsent, IsNumbered}
use Rattle.strategy_check.specs.Walks.{IsFrom}
use Rattle.strategy_check.specs.Nodes.{seat_numbered}
use Rattle.strategy_check.proofs.Limits.{limit_by}
use Rattle.strategy_check.proofs.Leading.{from_exists, seat_is, walk_same, walk_numbered, leads_numbered, past_most}
use Rattle.strategy_check.proofs.walk.Walk.lead.Goals as goal

pub choose-requires-clause-from : goal.choose-requires-clause-from
choose-requires-clause-from g c =
    let w = c.args.self.now in
    let some = c.requires.walk in
    let from = from_exists some.0 some.2 (seats_of w.seats) some.3.seats c.args.from c.requires.from in
    let here = seat_is (seats_of w.seats) c.args.from (seat_of c.seat-start.result) c.seat-start.ensures.none c.seat-start.ensures.some in
    (some.0, some.1, some.2, some.3.plays, some.3.few_goals, some.4, from.0, from.1, from.2, subst (λ (o : Option SeatData). IsFrom some.0 some.2 o from.0 from.1 from.2) (sym here) from.3)

pub choose-requires-clause-output : goal.choose-requires-clause-output
choose-requires-clause-output g c = let walk = c.requires.walk.3 in walk.output ∙ ap output_count (sym walk.plays.game)

pub choose-requires-clause-state : goal.choose-requires-clause-state
choose-requires-clause-state g c = let walk = c.requires.walk.3 in walk.state ∙ ap value_count (sym walk.plays.game)

pub returns-in-None-clause-walks : goal.returns-in-None-clause-walks
returns-in-None-clause-walks g c = λ d z l walk.
    let w = c.args.self.now in
    let from = from_exists d l (seats_of w.seats) walk.seats c.args.from c.requires.from in
    let here = seat_is (seats_of w.seats) c.args.from (seat_of c.seat-start.result) c.seat-start.ensures.none c.seat-start.ensures.some in
    let answers = c.in-None.ensures.answers d z l walk.plays from.0 from.1 from.2 (subst (λ (o : Option SeatData). IsFrom d l o from.0 from.1 from.2) (sym here) from.3) in
    walk_same g.G.Regions.kept _ _ w _ d z l walk answers.1 c.in-None.ensures.room.0 c.in-None.ensures.room.1 refl

pub returns-in-None-clause-leads : goal.returns-in-None-clause-leads
returns-in-None-clause-leads g c = λ d z l walk h b m is.
    let w = c.args.self.now in
    let here = seat_is (seats_of w.seats) c.args.from (seat_of c.seat-start.result) c.seat-start.ensures.none c.seat-start.ensures.some in
    ((c.in-None.ensures.answers d z l walk.plays h b m (subst (λ (o : Option SeatData). IsFrom d l o h b m) (sym here) is)).0, refl)

pub returns-in_err-number-in-Some-clause-walks : goal.returns-in_err-number-in-Some-clause-walks
returns-in_err-number-in-Some-clause-walks g c = λ d z l walk.
    let w = c.args.self.now in
    let from = from_exists d l (seats_of w.seats) walk.seats c.args.from c.requires.from in
    let here = seat_is (seats_of w.seats) c.args.from (seat_of c.seat-start.result) c.seat-start.ensures.none c.seat-start.ensures.some in
    let answers = c.in-Some.ensures.answers d z l walk.plays from.0 from.1 from.2 (subst (λ (o : Option SeatData). IsFrom d l o from.0 from.1 from.2) (sym here) from.3) in
    walk_same g.G.Regions.kept _ _ w _ d z l walk answers.1 c.in-Some.ensures.room.0 c.in-Some.ensures.room.1 c.in_err-number-in-Some.ensures.unchanged

pub returns-in_err-number-in-Some-clause-limit : goal.returns-in_err-number-in-Some-clause-limit
returns-in_err-number-in-Some-clause-limit g c = limit_by c.from_residual.result c.in_err-number-in-Some.field-0.0 _ c.from_residual.ensures.1 (λ full d z l walk.
    let w = c.args.self.now in
    let some = c.requires.walk in
    let from = from_exists d l (seats_of w.seats) walk.seats c.args.from c.requires.from in
    let here = seat_is (seats_of w.seats) c.args.from (seat_of c.seat-start.result) c.seat-start.ensures.none c.seat-start.ensures.some in
    let answers = c.in-Some.ensures.answers d z l walk.plays from.0 from.1 from.2 (subst (λ (o : Option SeatData). IsFrom d l o from.0 from.1 from.2) (sym here) from.3) in
    let limit = c.in_err-number-in-Some.ensures.limit full in
    let absent = subst (λ (vs : List Value). IsAbsent (seats_of w.seats) (record { values = vs; spot = c.in-Some.spot })) c.deref.ensures.value limit.1 in
    let input = subst (λ (d : GameData). is_input d c.args.input.now ≡ true) (sym some.3.plays.game ∙ walk.plays.game) some.4 in
    past_most g.G.Regions.kept c.args.play.now c.choose.new.play w (record w { room = c.choose.new.room }) d z l walk answers.1 c.in-Some.ensures.room.0 c.in-Some.ensures.room.1 (seat_numbered (seats_of w.seats) c.args.from) from.0 from.1 from.2 from.3 c.args.input.now input (record { values = c.choose.new.room.state.items; spot = c.in-Some.spot }) answers.0 limit.0 absent)

pub returns-in_ok-number-in-Some-clause-walks : goal.returns-in_ok-number-in-Some-clause-walks
returns-in_ok-number-in-Some-clause-walks g c = λ d z l walk.
    let w = c.args.self.now in
    let some = c.requires.walk in
    let from = from_exists d l (seats_of w.seats) walk.seats c.args.from c.requires.from in
    let here = seat_is (seats_of w.seats) c.args.from (seat_of c.seat-start.result) c.seat-start.ensures.none c.seat-start.ensures.some in
    let answers = c.in-Some.ensures.answers d z l walk.plays from.0 from.1 from.2 (subst (λ (o : Option SeatData). IsFrom d l o from.0 from.1 from.2) (sym here) from.3) in
    let news = seats_of c.number.new.self in
    let numbered = subst (λ (vs : List Value). IsNumbered (seats_of w.seats) news (record { values = vs; spot = c.in-Some.spot }) c.in_ok-number-in-Some.number) c.deref.ensures.value c.in_ok-number-in-Some.ensures.numbered in
    let input = subst (λ (d : GameData). is_input d c.args.input.now ≡ true) (sym some.3.plays.game ∙ walk.plays.game) some.4 in
    walk_numbered g.G.Regions.kept _ _ w _ d z l walk answers.1 c.in-Some.ensures.room.0 c.in-Some.ensures.room.1 (seat_numbered (seats_of w.seats) c.args.from) from.0 from.1 from.2 from.3 c.args.input.now input _ answers.0 c.in_ok-number-in-Some.number numbered c.in_ok-number-in-Some.ensures.few

pub returns-in_ok-number-in-Some-clause-leads : goal.returns-in_ok-number-in-Some-clause-leads
returns-in_ok-number-in-Some-clause-leads g c = λ d z l walk h b m is.
    let w = c.args.self.now in
    let some = c.requires.walk in
    let here = seat_is (seats_of w.seats) c.args.from (seat_of c.seat-start.result) c.seat-start.ensures.none c.seat-start.ensures.some in
    let answers = c.in-Some.ensures.answers d z l walk.plays h b m (subst (λ (o : Option SeatData). IsFrom d l o h b m) (sym here) is) in
    let news = seats_of c.number.new.self in
    let numbered = subst (λ (vs : List Value). IsNumbered (seats_of w.seats) news (record { values = vs; spot = c.in-Some.spot }) c.in_ok-number-in-Some.number) c.deref.ensures.value c.in_ok-number-in-Some.ensures.numbered in
    let input = subst (λ (d : GameData). is_input d c.args.input.now ≡ true) (sym some.3.plays.game ∙ walk.plays.game) some.4 in
    leads_numbered g.G.Regions.kept c.args.play.now c.choose.new.play w (record w { seats = c.number.new.self; room = c.choose.new.room }) d z l walk answers.1 c.in-Some.ensures.room.0 c.in-Some.ensures.room.1 (seat_numbered (seats_of w.seats) c.args.from) h b m is c.args.input.now input _ answers.0 c.in_ok-number-in-Some.number numbered
