use Rattle.std.proofs.Common.{◌≡◌, ◌∙◌, true, List, Option, refl, sym, ap, subst}
use Rattle.spec_model.specs.declared.value.Value.{Value}
use Rattle.spec_model.specs.Values.{Assignment}
use Rattle.spec_model.specs.Games.{GameData}
use Rattle.spec_model.specs.Steps.{is_output}
use Rattle.regions.specs.Rules.{input_count}
use Rattle.strategy_parts.specs.Counts.{value_count}
use Rattle.counter_tables.specs.declared.walk.Walk.{Walk}
use Rattle.counter_tables.specs.Seats.{SeatData, seats_of, seat_of, IsAbsent, IsNumbered}
use Rattle.counter_tables.specs.Walks.{IsFrom}
use Rattle.counter_tables.specs.Nodes.{seat_numbered}
use Rattle.counter_tables.proofs.Ends.{from_ending}
use Rattle.counter_tables.proofs.Leading.{from_exists, seat_is, walk_same, walk_numbered, leads_numbered, past_most}
use Rattle.counter_tables.proofs.Moves.{handed}
use Rattle.counter_tables.proofs.walk.Walk.lead.Goals as goal

pub follow-requires-clause-from : goal.follow-requires-clause-from
follow-requires-clause-from g c =
    let w = c.args.self.now in
    let some = c.requires.walk in
    let from = from_exists g.G.Regions.kept c.args.play.now some.0 some.1 some.2.plays (seats_of w.seats) some.2.seats c.args.from c.requires.from in
    let here = seat_is (seats_of w.seats) c.args.from (seat_of c.seat-start.result) c.seat-start.ensures.none c.seat-start.ensures.some in
    (some.0, some.1, some.2.plays, some.2.few_goals, some.3, from.0, subst (λ (o : Option SeatData). IsFrom some.0 some.1 o from.0) (sym here) from.1)

pub follow-requires-clause-input : goal.follow-requires-clause-input
follow-requires-clause-input g c = let walk = c.requires.walk.2 in walk.input ∙ ap input_count (sym walk.plays.game)

pub follow-requires-clause-state : goal.follow-requires-clause-state
follow-requires-clause-state g c = let walk = c.requires.walk.2 in walk.state ∙ ap value_count (sym walk.plays.game)

pub number-requires : goal.number-requires
number-requires g c = record { few = c.requires.walk.2.few }

pub returns-in-None-clause-walks : goal.returns-in-None-clause-walks
returns-in-None-clause-walks g c = λ d e walk.
    let w = c.args.self.now in
    let from = from_exists g.G.Regions.kept c.args.play.now d e walk.plays (seats_of w.seats) walk.seats c.args.from c.requires.from in
    let here = seat_is (seats_of w.seats) c.args.from (seat_of c.seat-start.result) c.seat-start.ensures.none c.seat-start.ensures.some in
    let answers = c.in-None.ensures.answers d e walk.plays from.0 (subst (λ (o : Option SeatData). IsFrom d e o from.0) (sym here) from.1) in
    walk_same g.G.Regions.kept _ _ w _ d e walk answers.1 c.in-None.ensures.room.0 c.in-None.ensures.room.1 refl

pub returns-in-None-clause-leads : goal.returns-in-None-clause-leads
returns-in-None-clause-leads g c = λ d e walk p is.
    let w = c.args.self.now in
    let here = seat_is (seats_of w.seats) c.args.from (seat_of c.seat-start.result) c.seat-start.ensures.none c.seat-start.ensures.some in
    ((c.in-None.ensures.answers d e walk.plays p (subst (λ (o : Option SeatData). IsFrom d e o p) (sym here) is)).0, refl)

pub returns-in_err-number-in-Some-clause-walks : goal.returns-in_err-number-in-Some-clause-walks
returns-in_err-number-in-Some-clause-walks g c = λ d e walk.
    let w = c.args.self.now in
    let from = from_exists g.G.Regions.kept c.args.play.now d e walk.plays (seats_of w.seats) walk.seats c.args.from c.requires.from in
    let here = seat_is (seats_of w.seats) c.args.from (seat_of c.seat-start.result) c.seat-start.ensures.none c.seat-start.ensures.some in
    let answers = c.in-Some.ensures.answers d e walk.plays from.0 (subst (λ (o : Option SeatData). IsFrom d e o from.0) (sym here) from.1) in
    walk_same g.G.Regions.kept _ _ w _ d e walk answers.1 c.in-Some.ensures.room.0 c.in-Some.ensures.room.1 c.in_err-number-in-Some.ensures.unchanged

pub returns-in_err-number-in-Some-clause-limit : goal.returns-in_err-number-in-Some-clause-limit
returns-in_err-number-in-Some-clause-limit g c = handed _ c.from_residual.result c.in_err-number-in-Some.field-0.0 c.from_residual.ensures.1 (λ full d e walk.
    let w = c.args.self.now in
    let some = c.requires.walk in
    let from = from_exists g.G.Regions.kept c.args.play.now d e walk.plays (seats_of w.seats) walk.seats c.args.from c.requires.from in
    let here = seat_is (seats_of w.seats) c.args.from (seat_of c.seat-start.result) c.seat-start.ensures.none c.seat-start.ensures.some in
    let answers = c.in-Some.ensures.answers d e walk.plays from.0 (subst (λ (o : Option SeatData). IsFrom d e o from.0) (sym here) from.1) in
    let limit = c.in_err-number-in-Some.ensures.limit full in
    let absent = subst (λ (vs : List Value). IsAbsent (seats_of w.seats) vs c.in-Some.spot) c.deref.ensures.value limit.1 in
    let output = subst (λ (d : GameData). is_output d c.args.output.now ≡ true) (sym some.2.plays.game ∙ walk.plays.game) some.3 in
    let v : SeatData = record { values = c.follow.new.room.state.items; spot = c.in-Some.spot; reply = c.follow.new.room.input.items } in
    let next : Walk = record { alloc = w.alloc; seats = c.number.new.self; room = c.follow.new.room } in
    past_most g.G.Regions.kept c.args.play.now c.follow.new.play w next d e walk answers.1 c.in-Some.ensures.room.0 c.in-Some.ensures.room.1 from.0 (from_ending d e (seat_numbered (seats_of w.seats) c.args.from) from.0 from.1) c.args.output.now output v answers.0 limit.0 absent)

pub returns-in_ok-number-in-Some-clause-walks : goal.returns-in_ok-number-in-Some-clause-walks
returns-in_ok-number-in-Some-clause-walks g c = λ d e walk.
    let w = c.args.self.now in
    let some = c.requires.walk in
    let from = from_exists g.G.Regions.kept c.args.play.now d e walk.plays (seats_of w.seats) walk.seats c.args.from c.requires.from in
    let here = seat_is (seats_of w.seats) c.args.from (seat_of c.seat-start.result) c.seat-start.ensures.none c.seat-start.ensures.some in
    let answers = c.in-Some.ensures.answers d e walk.plays from.0 (subst (λ (o : Option SeatData). IsFrom d e o from.0) (sym here) from.1) in
    let news = seats_of c.number.new.self in
    let numbered = subst (λ (x : Assignment). IsNumbered (seats_of w.seats) news (record { values = c.follow.new.room.state.items; spot = c.in-Some.spot; reply = x }) c.in_ok-number-in-Some.number) c.deref-in-Some.ensures.value
    (subst (λ (vs : List Value). IsNumbered (seats_of w.seats) news (record { values = vs; spot = c.in-Some.spot; reply = c.deref-in-Some.result.now }) c.in_ok-number-in-Some.number) c.deref.ensures.value c.in_ok-number-in-Some.ensures.numbered) in
    let output = subst (λ (d : GameData). is_output d c.args.output.now ≡ true) (sym some.2.plays.game ∙ walk.plays.game) some.3 in
    let v : SeatData = record { values = c.follow.new.room.state.items; spot = c.in-Some.spot; reply = c.follow.new.room.input.items } in
    let next : Walk = record { alloc = w.alloc; seats = c.number.new.self; room = c.follow.new.room } in
    walk_numbered g.G.Regions.kept c.args.play.now c.follow.new.play w next d e walk answers.1 c.in-Some.ensures.room.0 c.in-Some.ensures.room.1 from.0 (from_ending d e (seat_numbered (seats_of w.seats) c.args.from) from.0 from.1) c.args.output.now output v answers.0 c.in_ok-number-in-Some.number numbered c.in_ok-number-in-Some.ensures.few

pub returns-in_ok-number-in-Some-clause-leads : goal.returns-in_ok-number-in-Some-clause-leads
returns-in_ok-number-in-Some-clause-leads g c = λ d e walk p is.
    let w = c.args.self.now in
    let some = c.requires.walk in
    let here = seat_is (seats_of w.seats) c.args.from (seat_of c.seat-start.result) c.seat-start.ensures.none c.seat-start.ensures.some in
    let answers = c.in-Some.ensures.answers d e walk.plays p (subst (λ (o : Option SeatData). IsFrom d e o p) (sym here) is) in
    let news = seats_of c.number.new.self in
    let numbered = subst (λ (x : Assignment). IsNumbered (seats_of w.seats) news (record { values = c.follow.new.room.state.items; spot = c.in-Some.spot; reply = x }) c.in_ok-number-in-Some.number) c.deref-in-Some.ensures.value
    (subst (λ (vs : List Value). IsNumbered (seats_of w.seats) news (record { values = vs; spot = c.in-Some.spot; reply = c.deref-in-Some.result.now }) c.in_ok-number-in-Some.number) c.deref.ensures.value c.in_ok-number-in-Some.ensures.numbered) in
    let output = subst (λ (d : GameData). is_output d c.args.output.now ≡ true) (sym some.2.plays.game ∙ walk.plays.game) some.3 in
    let v : SeatData = record { values = c.follow.new.room.state.items; spot = c.in-Some.spot; reply = c.follow.new.room.input.items } in
    let next : Walk = record { alloc = w.alloc; seats = c.number.new.self; room = c.follow.new.room } in
    leads_numbered g.G.Regions.kept c.args.play.now c.follow.new.play w next d e walk answers.1 c.in-Some.ensures.room.0 c.in-Some.ensures.room.1 p (from_ending d e (seat_numbered (seats_of w.seats) c.args.from) p is) c.args.output.now output v answers.0 c.in_ok-number-in-Some.number numbered
