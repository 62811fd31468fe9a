use Rattle.std.proofs.Common.{◌∙◌, Some, None, Option, sym, ap, subst}
use Rattle.counterstrategy.specs.Objects.{game_of}
use Rattle.counterstrategy.specs.Spots.{EndsAt, CanGo}
use Rattle.counter_tables.specs.Seats.{SeatData, seat_data, seat_of}
use Rattle.counter_tables.specs.Walks.{IsFrom}
use Rattle.counter_tables.proofs.Moves.{at_start, at_seat, ends_there, can_go}
use Rattle.counter_tables.proofs.moving.stand.Goals as goal

pub begin-requires-clause-stands : goal.begin-requires-clause-stands
begin-requires-clause-stands g c = let f = c.requires.from in let plays = f.2 in (f.1, plays.run, plays.notes, plays.before, plays.memory, plays.stands)

pub go-requires : goal.go-requires
go-requires g c =
    let f = c.requires.from in
    let v = seat_data c.in-Some.seat.now in
    let is : IsFrom f.0 f.1 (Some v) f.3 = subst (λ (o : Option SeatData). IsFrom f.0 f.1 o f.3) (ap seat_of c.in-Some.is) f.4 in
    record { there = subst (λ vs. CanGo g.G.Regions.kept c.args.play.now vs c.in-Some.seat.now.spot) (sym c.deref.ensures.value) (can_go g.G.Regions.kept c.args.play.now f.0 f.2.game f.1 f.2 f.3 v is) }

pub returns-in-None-clause-gives : goal.returns-in-None-clause-gives
returns-in-None-clause-gives g c = λ d e plays p is.
    let from : IsFrom d e None p = subst (λ (o : Option SeatData). IsFrom d e o p) (ap seat_of c.in-None.is) is in
    at_start g.G.Regions.kept c.begin.new.play d (c.begin.ensures.keeps.game.game ∙ plays.game) e p from c.begin.new.input.items (c.begin.ensures.gives e plays.run plays.notes plays.before plays.memory plays.stands)

pub returns-in-Some-clause-gives : goal.returns-in-Some-clause-gives
returns-in-Some-clause-gives g c = λ d e plays p is.
    let kept = g.G.Regions.kept in
    let v = seat_data c.in-Some.seat.now in
    let from : IsFrom d e (Some v) p = subst (λ (o : Option SeatData). IsFrom d e o p) (ap seat_of c.in-Some.is) is in
    let ends = subst (λ vs. EndsAt (game_of kept c.args.play.now) e p.run p.notes from.1.state p.memory vs v.spot) (sym c.deref.ensures.value) (ends_there kept c.args.play.now d plays.game e p v from) in
    let gave = c.go.ensures.stands e plays.run plays.notes plays.before plays.memory plays.stands p.run p.notes from.1.state p.memory ends in
    at_seat kept c.go.new.self d (c.go.ensures.keeps.game.game ∙ plays.game) e p v from gave.0 gave.1
